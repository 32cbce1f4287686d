pub mod Answers
pub mod Bytes
pub mod Marks
pub mod Wide
