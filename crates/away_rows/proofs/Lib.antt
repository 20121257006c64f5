pub mod SeatLaws
pub mod SideLaws
pub mod TimesLaws
