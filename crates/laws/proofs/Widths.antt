-- Widths and the ranking.
pub mod Extra
pub mod Fewest
pub mod Ranking
pub mod Placing
