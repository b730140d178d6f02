pub mod Calls
pub mod Faults
pub mod Office
pub mod Verdicts
