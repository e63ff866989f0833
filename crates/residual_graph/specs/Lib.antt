pub mod Arcs
pub mod Places
pub mod View
pub mod Touched
pub mod Fills
pub mod Indexed
pub mod Storage
