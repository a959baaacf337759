-- The laws by which the check finds that a function over bits meets its contract.
pub mod Outputs
pub mod Measured
