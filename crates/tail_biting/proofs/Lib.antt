pub mod CodeFigures
