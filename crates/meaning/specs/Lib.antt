-- Document 01, a module for each of its headings. Basics holds what they share.
pub mod Basics
pub mod Limits
pub mod Constants
pub mod Operation
pub mod Graph
pub mod Distance
pub mod Digits
pub mod Generator
pub mod Products
pub mod Widths
pub mod Refusals
pub mod Text
pub mod Forms
pub mod Job
pub mod Listing
pub mod Calls
