pub mod LineLaws
pub mod RowLaws
pub mod TaskLaws
pub mod RegsLaws
