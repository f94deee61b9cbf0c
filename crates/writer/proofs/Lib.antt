pub mod Filled
pub mod ByKind
pub mod Walked
pub mod Counts
pub mod Unique
