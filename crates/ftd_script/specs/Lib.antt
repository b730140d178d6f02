pub mod Jobs
pub mod Shown
pub mod Statuses
pub use Rattle.ftd_ports.specs.Writing
pub use Rattle.ftd_replies.specs.Putting
