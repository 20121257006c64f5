pub mod Side
pub mod Act
pub mod Turn
pub mod Next
pub mod Hit
pub mod Waking
pub mod Ready
