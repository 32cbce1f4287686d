pub mod Building
pub mod Cases
pub mod FirstBlock
pub mod Flags
pub mod Messages
pub mod Opening
pub mod Slots
pub mod Writer
