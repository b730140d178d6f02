pub mod Ports
pub mod Writing
