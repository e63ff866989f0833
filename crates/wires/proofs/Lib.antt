pub mod Examples
pub mod Fronts
pub mod Joins
pub mod Puts
pub mod Visits
