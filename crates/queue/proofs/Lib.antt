pub mod Frames
pub mod Steps
pub mod Walking
pub mod Registering
pub mod Taking
