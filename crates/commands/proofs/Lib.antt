pub mod Agreement
pub mod Effects
pub mod Making
pub mod Passed
