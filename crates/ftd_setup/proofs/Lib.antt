pub mod Stepping
pub mod Readings
pub mod Foreign
pub mod Made
pub mod Surviving
pub mod Answering
