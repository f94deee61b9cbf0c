pub mod Telling
pub mod Arguments
