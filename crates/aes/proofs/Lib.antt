pub mod Bytes
pub mod Columns
pub mod RoundTrip
pub mod Rounds
pub mod Schedule
pub mod Steps
