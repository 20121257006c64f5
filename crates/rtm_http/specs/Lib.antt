pub mod Lines
pub mod Head
pub mod Route
pub mod Table
pub mod Response
pub mod Pieces
