pub mod Counting
pub mod Openings
pub mod Rounds
pub mod Rules
