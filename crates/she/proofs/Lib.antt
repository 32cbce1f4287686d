pub mod Making
pub mod Wide
