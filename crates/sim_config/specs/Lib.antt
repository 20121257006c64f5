pub mod Keys
pub mod Tables
pub mod Values
pub mod Meaning
pub mod Words
pub mod Rows
