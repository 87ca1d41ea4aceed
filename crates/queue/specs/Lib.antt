pub mod Tests
pub mod Updates
pub mod Sums
pub mod Queue
pub mod Tickets
pub mod Roles
pub mod Invariant
pub mod Reads
