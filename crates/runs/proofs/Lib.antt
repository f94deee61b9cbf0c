pub mod PassAfterPass
pub mod RunNow
pub mod RunOn
pub mod Unique
pub mod SettledRun
