pub mod Cipher
pub mod Engine
pub mod Schedule
pub mod State
pub mod Steps
