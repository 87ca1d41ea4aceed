pub mod AfterWalk
pub mod UnlockQueue
