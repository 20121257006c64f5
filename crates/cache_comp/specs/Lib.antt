pub mod Counts
pub mod Lines
pub mod LinesLaws
pub mod TwoPorts
pub mod TwoPortsLaws
pub mod Cache
pub mod CacheLaws
