pub mod Begins
pub mod Day
pub mod Ours
pub mod Round
pub mod Taken
