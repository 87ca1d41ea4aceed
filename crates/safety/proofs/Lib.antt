pub mod Plain
pub mod ListMoves
pub mod Registrations
pub mod Counts
pub mod Spots
pub mod StandingList
pub mod Theorems
