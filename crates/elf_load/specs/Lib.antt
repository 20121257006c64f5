pub mod Fields
pub mod Image
pub mod Rule
pub mod Rules
