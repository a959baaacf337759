-- Graphs.
pub mod Rows
pub mod Bounds
