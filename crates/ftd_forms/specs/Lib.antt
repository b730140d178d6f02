pub mod Given
pub mod Known
pub mod Shown
pub mod Sent
pub use Rattle.ftd_desk.specs.Desks
pub use Rattle.ftd_machine.specs.Checks
pub use Rattle.ftd_server.specs.Responses
