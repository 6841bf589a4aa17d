pub mod WorkedRows
pub mod MadeRows
