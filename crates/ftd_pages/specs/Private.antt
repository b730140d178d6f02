-- What private contracts and proofs alone cite.
pub mod Cells
