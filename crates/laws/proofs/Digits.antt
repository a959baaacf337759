-- Canonic digits and their prefixes.
pub mod Canonic
pub mod Count
pub mod Places
pub mod Prefixes
pub mod Chain
