-- What contracts cite of a store of temporary files.
pub mod Temp
