pub mod RunGear
pub mod Run
pub mod Between
pub mod Engine
pub mod Asleep
