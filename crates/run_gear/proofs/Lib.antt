pub mod DoneLaws
pub mod Mapped
pub mod NameLaws
pub mod Pigeons
pub mod Setting
pub mod Boundaries
pub mod CountLaws
pub mod LineLaws
