pub mod Range
pub mod Start
