-- Laws that the functions' proofs cite.
pub mod Shifts
pub mod Places
pub mod Insertion
