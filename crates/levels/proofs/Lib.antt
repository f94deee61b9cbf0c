pub mod Walked
pub mod FilesPassed
pub mod Shown
pub mod Unique
