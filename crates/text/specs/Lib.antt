pub mod Buffers
pub mod Hex
pub mod Marks
pub mod Numbers
