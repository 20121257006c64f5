pub mod Edge
pub mod Name
