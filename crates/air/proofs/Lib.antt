pub mod Ordered
pub mod Tested
pub mod Writing
pub mod Kept
pub mod Found
pub mod Coding
pub mod Parted
pub mod Heard
