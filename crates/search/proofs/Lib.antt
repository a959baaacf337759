-- The laws of the map.
pub mod Sides
pub mod Walk
pub mod Serves
pub mod Marks
pub mod ReadyLaws
pub mod Candidates
pub mod Choosing
pub mod Least
pub mod RuleB
