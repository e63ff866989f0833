pub mod Records
pub mod Shelves
pub mod Solo
pub mod Facts
pub mod Boards
pub mod BoardRule
pub mod Publishing
