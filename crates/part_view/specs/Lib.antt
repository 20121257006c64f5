pub mod CachePhases
pub mod Fields
pub mod Entries
pub mod Bodies
