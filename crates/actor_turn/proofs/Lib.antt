pub mod WakingLaws
pub mod BeatLaws
pub mod ActLaws
pub mod WithinLaws
pub mod TurnLaws
