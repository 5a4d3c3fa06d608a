pub mod Copies
pub mod Positions
pub mod Columns
