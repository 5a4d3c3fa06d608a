pub mod Opened
pub mod Binary
pub mod Gathering
pub mod Padding
pub mod Past
pub mod Framed
pub mod PairCalls
pub mod Lengths
