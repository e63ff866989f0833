pub mod Tickets
pub mod Settling
pub mod SixRouters
