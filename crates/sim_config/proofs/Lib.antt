pub mod NameTests
pub mod WordTests
pub mod Fronts
pub mod ItemLaws
pub mod Defaults
pub mod Rows
