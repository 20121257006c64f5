pub mod LonePlan
mod Awake
mod Edges
pub mod LoneRun
mod RingRun
mod Verdicts
mod ThreeRun
mod Resumed
