pub mod Kept
pub mod Schedules
pub mod Explained
pub mod Payments
pub mod Unapplied
pub use Rattle.ftd_days.specs.Calendar
pub use Rattle.ftd_entries.specs.Opening
pub use Rattle.ftd_entries.specs.Standing
pub use Rattle.ftd_entries.specs.Words
pub use Rattle.ftd_machine.specs.Asking
pub use Rattle.ftd_machine.specs.Checks
pub use Rattle.ftd_machine.specs.History
pub use Rattle.ftd_machine.specs.Kept as MachineKept
pub use Rattle.ftd_machine.specs.Sound
pub use Rattle.ftd_machine.specs.State
pub use Rattle.ftd_store.specs.Lists
pub use Rattle.ftd_rules.specs.Liability
pub use Rattle.ftd_rules.specs.Years
pub use Rattle.ftd_store.specs.Frame
pub use Rattle.ftd_store.specs.Kept as StoredKept
