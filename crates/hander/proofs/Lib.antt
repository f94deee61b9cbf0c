pub mod Handing
pub mod Resettling
pub mod Balancing
pub mod WholeInput
pub mod Unique
