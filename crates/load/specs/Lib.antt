pub mod Export
pub mod Load
pub mod Rules
