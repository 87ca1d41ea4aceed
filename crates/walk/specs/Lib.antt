pub mod FindTail
pub mod CompleteAll
