-- What the distance call works with.
pub mod Away
