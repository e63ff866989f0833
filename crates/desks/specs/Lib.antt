pub mod Visits
pub mod Doors
pub mod Desks
pub mod Boards
