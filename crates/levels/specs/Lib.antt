pub mod Vectors
pub mod Numbers
pub mod Leading
