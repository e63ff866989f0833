pub mod Visiting
pub mod Serving
pub mod Desking
