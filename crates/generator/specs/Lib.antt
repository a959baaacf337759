pub mod Rule
pub mod Growth
pub mod Search
