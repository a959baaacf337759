-- The proofs of what the buyer is promised.
pub mod Rows
pub mod Worked
pub mod Grammar
pub mod Condition1
pub mod Condition2
pub mod Reach
pub mod Rule
pub mod Condition3
pub mod Constants
pub mod Listing
pub mod Jobs
pub mod Examples
pub mod SortKey
pub mod Tender
