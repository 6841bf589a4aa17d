pub mod Boxed
pub mod Gathered
pub mod Held
pub mod Index
pub mod ItemList
pub mod Newest
pub mod Next
pub mod Table
