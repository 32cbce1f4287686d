pub mod Agree
pub mod Bytes
pub mod Faults
pub mod Wide
