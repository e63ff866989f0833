pub mod Drawing
pub mod Pairs
pub mod Examples
