pub mod Kinds
pub mod Coordinates
pub mod Built
