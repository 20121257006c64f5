pub mod Counted
pub mod IsGear
pub mod IsOpened
pub mod PlanNames
pub mod Written
