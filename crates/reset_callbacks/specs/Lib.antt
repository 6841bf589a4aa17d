pub mod Hook
pub mod ShelfState
