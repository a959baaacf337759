pub mod ValidRowLaws
pub mod Stages
