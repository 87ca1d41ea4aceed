pub mod Node
pub mod Holding
pub mod Access
pub mod Answer
pub mod Machine
pub mod View
pub mod Replies
