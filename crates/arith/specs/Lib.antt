-- What the code of an insertion works by.
pub mod Insertion
