pub mod PassGlue
pub mod InPass
pub mod StaysLaws
pub mod TimeLaws
