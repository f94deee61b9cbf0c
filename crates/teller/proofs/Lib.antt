pub mod Telling
pub mod Named
pub mod WholeInput
pub mod Unique
