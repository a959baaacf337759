-- What the proofs share.
pub mod Handed
pub mod Fits
pub mod CodesLaws
