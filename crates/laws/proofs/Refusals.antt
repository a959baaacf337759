-- The stages of a call.
pub mod Stages
pub mod Members
pub mod Checked
