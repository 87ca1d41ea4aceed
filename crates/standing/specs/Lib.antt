pub mod Part
pub mod Look
pub mod Stands
pub mod LookLaws
pub mod Rouses
pub mod Examples
