pub mod Shifting
pub mod CheckFigures
