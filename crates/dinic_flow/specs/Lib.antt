pub mod Labels
pub mod Levels
pub mod Balls
pub mod Searching
pub mod Sending
pub mod Phases
pub mod Room
pub mod Desk
