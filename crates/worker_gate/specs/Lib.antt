pub mod Cutting
pub mod Building
