pub mod TryRead
pub mod TryWrite
pub mod LockContended
pub mod Wait
