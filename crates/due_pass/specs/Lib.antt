pub mod Pass
pub mod Time
