pub mod Blocks
pub mod Filled
pub mod Readings
pub mod JobTaken
pub mod Unique
