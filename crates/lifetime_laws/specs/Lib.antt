-- What contracts cite: the laws of lifetimes over events, and the tests that decide them.
pub mod Reading
pub mod Balance
pub mod Parents
pub mod Once
pub mod Made
pub mod Order
pub mod Inside
pub mod Called
pub mod Laws
