-- The laws of writing that the crates above cite.
pub mod Io
pub mod Writing
