pub mod HostFiles
pub mod MemFiles
pub mod MemSink
pub mod Sink
