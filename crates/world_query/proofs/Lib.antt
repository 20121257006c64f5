pub mod NumberLaws
pub mod PlanWorlds
pub mod QueryLaws
pub mod TableLaws
