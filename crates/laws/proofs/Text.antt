-- Texts read and written.
pub mod Numerals
pub mod Bytes
pub mod ReadBack
pub mod Jobs
pub mod Asked
pub mod Forms
pub mod Lines
pub mod Listings
pub mod Room
