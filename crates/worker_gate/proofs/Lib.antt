pub mod Crews
pub mod Finishing
