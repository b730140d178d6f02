pub mod FieldRows
pub mod Formats
pub mod Rows
pub mod Fields
pub mod Asked
