-- What the buyer is promised: Tender is all of it in one record.
pub mod Words
pub mod Grammar
pub mod Table
pub mod Condition1
pub mod Condition2
pub mod Rule
pub mod Condition3
pub mod Constants
pub mod Listing
pub mod Examples
pub mod SortKey
pub mod Tender
