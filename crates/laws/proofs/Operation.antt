-- The operation.
pub mod Result
pub mod Inverse
