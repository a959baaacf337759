-- What the code of the canonic form hands back.
pub mod Held
