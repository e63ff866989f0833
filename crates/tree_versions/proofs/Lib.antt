pub mod Views
pub mod Fronts
pub mod Adding
pub mod Taking
pub mod Telling
