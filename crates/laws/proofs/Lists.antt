-- Lists, searches in them and loops over them.
pub mod Tests
pub mod Over
pub mod Has
pub mod First
pub mod FindMap
pub mod Least
pub mod Index
pub mod Permutations
