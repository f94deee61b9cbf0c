pub mod Finding
pub mod Cases
