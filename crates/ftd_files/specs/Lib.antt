pub mod Resting
pub use Rattle.ftd_desk.specs.Desks
