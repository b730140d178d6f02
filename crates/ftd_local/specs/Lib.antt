pub mod Beginnings
pub mod Checking
pub mod Copies
pub mod Jobs
pub mod Scripts
pub use Rattle.ftd_program.specs.Doing
