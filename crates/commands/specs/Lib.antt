pub mod Checks
pub mod Commands
