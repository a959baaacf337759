-- The laws that the code's proofs share.
pub mod Laws
pub mod Ranked
