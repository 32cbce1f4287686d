pub mod Account
pub mod Made
pub mod Outcome
pub mod Record
pub mod Rules
