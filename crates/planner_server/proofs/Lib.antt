pub mod Deciding
pub mod Ending
pub mod Examples
pub mod Ranges
pub mod Reading
