pub mod Choosing
pub mod Best
pub mod Reaching
pub mod Heavy
pub mod Cases
