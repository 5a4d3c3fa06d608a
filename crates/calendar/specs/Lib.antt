pub mod Identities
pub mod Times
pub mod Grants
pub mod Words
pub mod Rounds
pub mod Courses
pub mod Calendar
