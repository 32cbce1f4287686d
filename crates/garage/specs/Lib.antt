pub mod Book
pub mod Calls
pub mod Open
pub mod Outcome
pub mod Promised
pub mod Rules
pub mod Runs
