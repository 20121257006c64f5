pub mod Due
pub mod Heap
pub mod KeyRow
pub mod NextTimes
pub mod Places
pub mod Mark
pub mod Merged
