pub mod Weights
pub mod Rule
pub mod Passes
pub mod Counts
