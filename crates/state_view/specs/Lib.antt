pub mod Report
pub mod MemoryRows
pub mod RegsLine
