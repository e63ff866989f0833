pub mod Weights
pub mod Views
pub mod Moves
pub mod Gathered
