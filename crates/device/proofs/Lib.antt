pub mod Account
pub mod Effects
pub mod Made
pub mod Marks
pub mod Record
pub mod Settled
pub mod Slots
