pub mod GearLaws
pub mod RunLaws
pub mod TimesLaws
pub mod OpenLaws
pub mod EngineLaws
pub mod AsleepLaws
