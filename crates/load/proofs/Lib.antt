pub mod Effects
pub mod Exporting
pub mod Loading
pub mod Writing
