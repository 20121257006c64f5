pub mod Directory
pub mod Legend
pub mod Table
