pub mod She
