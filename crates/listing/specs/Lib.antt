pub mod Listing
pub mod Way
pub mod ReaderCount
pub mod Laws
pub mod Examples
