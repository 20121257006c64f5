pub mod EdgeLaws
pub mod PassLaws
pub mod WakeLaws
pub mod TimeLaws
pub mod RunLaws
