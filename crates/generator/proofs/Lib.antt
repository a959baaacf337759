pub mod Turns
pub mod Answers
pub mod RuleLaws
pub mod DraftLaws
pub mod FirstChoice
pub mod RemainingLaws
pub mod TurnSteps
