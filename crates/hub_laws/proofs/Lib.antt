pub mod PassIsOver
pub mod PassBegins
pub mod SideBack
pub mod Worked
