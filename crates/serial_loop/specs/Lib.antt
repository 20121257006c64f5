pub mod FirstEdge
pub mod HasNext
pub mod IsAt
pub mod Pass
pub mod Woken
