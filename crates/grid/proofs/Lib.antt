pub mod Next
pub mod Chosen
pub mod Overwrites
pub mod Walks
pub mod Bits
pub mod Elements
pub mod Carried
pub mod Figures
mod Blanks
mod Fetched
