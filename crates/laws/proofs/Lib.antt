-- The laws of the definitions: a module for each heading of `meaning`, one for whole numbers, and one for lists, searches and loops.
pub mod Whole
pub mod Lists
pub mod Constants
pub mod Operation
pub mod Digits
pub mod Refusals
pub mod Graph
pub mod Distance
pub mod Generator
pub mod Products
pub mod Widths
pub mod Text
