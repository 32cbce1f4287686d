pub mod InStep
pub mod Rounds
