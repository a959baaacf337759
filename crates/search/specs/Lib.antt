-- What the map holds.
pub mod Sides
pub mod Walk
pub mod Marks
pub mod Held
pub mod Choices
pub mod Least
