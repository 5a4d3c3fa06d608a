pub mod Selecting
pub mod Scrambling
pub mod Chained
pub mod Scrambles
pub mod Selects
pub mod Rings
