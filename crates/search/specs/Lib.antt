-- What the search is said to do, each file above those that use it. Assumes nothing.
pub mod Layouts
pub mod Sought
pub mod Marks
pub mod Tasks
pub mod Fronts
pub mod Steps
pub mod Searches
pub mod Finds
