pub mod Core
pub mod CoreLaws
