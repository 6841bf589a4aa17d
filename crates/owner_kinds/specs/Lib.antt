pub mod Different
pub mod Kind
pub mod KindTable
pub mod KindShelf
pub mod Place
