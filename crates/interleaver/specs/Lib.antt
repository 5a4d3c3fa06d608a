pub mod Interleaving
pub mod Interleaves
pub mod Triples
pub mod Joins
pub mod Cells
pub mod Kept
