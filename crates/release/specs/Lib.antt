pub mod ReadUnlock
pub mod WriteUnlock
pub mod UnlockContended
pub mod Downgrade
