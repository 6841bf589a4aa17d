pub mod CountLemmas
pub mod InOrder
pub mod OneMore
