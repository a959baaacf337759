-- What the steps of the ranking go by.
pub mod Keys
