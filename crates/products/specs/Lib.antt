-- What the code of the products works by.
pub mod Worked
pub mod RowProductWorked
