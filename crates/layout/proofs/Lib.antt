pub mod WholeInput
pub mod Unique
