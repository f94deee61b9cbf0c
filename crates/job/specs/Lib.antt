pub mod Parts
pub mod Holds
pub mod Pins
pub mod Totals
pub mod Survey
pub mod Given
pub mod Refusing
