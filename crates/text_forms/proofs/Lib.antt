pub mod Decimals
pub mod Examples
pub mod Returns
pub mod Splitting
pub mod LinesOf
pub mod Written
