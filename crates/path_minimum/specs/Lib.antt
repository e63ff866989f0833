pub mod Depths
pub mod Jumps
pub mod Stretches
pub mod Ladders
pub mod Paths
pub mod Walks
pub mod Passing
pub mod Laws
