pub mod Words
pub mod Top
pub mod Refusals
pub mod Job
pub mod Summary
