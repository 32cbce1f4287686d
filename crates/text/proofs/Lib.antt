pub mod Buffers
pub mod Digits
pub mod Hex
pub mod Marks
