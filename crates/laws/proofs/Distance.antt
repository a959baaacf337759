-- Distance.
pub mod Reach
pub mod Distances
