pub mod Answer
pub mod Blocks
pub mod Cbc
pub mod Cmac
pub mod Compression
pub mod Constants
pub mod Number
pub mod Routines
