pub mod Coding
pub mod TailBites
pub mod Codes
pub mod Adding
pub mod Streams
pub mod Tapping
