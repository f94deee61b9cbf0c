pub mod Slots
pub mod Links
pub mod Entries
pub mod Offers
pub mod StandFor
pub mod Lent
