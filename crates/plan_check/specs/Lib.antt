pub mod Fields
pub mod Maps
pub mod Caches
pub mod Programs
pub mod Plan
