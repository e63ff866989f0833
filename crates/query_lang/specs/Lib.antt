pub mod Edges
pub mod Found
pub mod Laws
pub mod Replies
pub mod Reports
pub mod Requests
pub mod Runs
pub mod Trees
