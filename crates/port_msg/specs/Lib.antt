pub mod PortView
pub mod RecView
pub mod Kinds
