pub mod Masks
pub mod Window
pub mod Recurrence
pub mod Coming
pub mod Sequence
