pub mod InOrder
pub mod Unique
pub mod ShelfSteps
pub mod PendingSteps
