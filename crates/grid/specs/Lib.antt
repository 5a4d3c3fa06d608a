pub mod Walk
pub mod Purposes
pub mod Places
pub mod Pairs
pub mod References
pub mod Grids
pub mod Laws
