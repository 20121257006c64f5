pub mod Part
pub mod LinkKind
