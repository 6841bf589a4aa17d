-- What contracts cite of rows in a temporary file.
pub mod RowBytes
