-- Whole numbers.
pub mod Integers
pub mod Signed
pub mod Zeros
