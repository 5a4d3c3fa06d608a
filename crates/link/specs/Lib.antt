pub mod Calls
pub mod Account
pub mod Following
pub mod Home
pub mod Differences
pub mod Sinks
pub mod Links
