-- The generator.
pub mod Choices
pub mod Rules
pub mod Turn
pub mod Remaining
pub mod Generated
pub mod Shortest
pub mod Steps
