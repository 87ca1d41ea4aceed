pub mod Base
pub mod Bits
pub mod Number
pub mod Flags
pub mod Rules
pub mod Cases
pub mod Laws
pub mod Table
