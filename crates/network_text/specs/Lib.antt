pub mod Padding
pub mod Sheets
pub mod Faults
pub mod Texts
pub mod Readings
pub mod Writing
pub mod NameTexts
