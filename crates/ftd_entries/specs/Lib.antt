pub mod Correcting
pub mod Known
pub mod Totals
pub mod Opening
pub mod Payments
pub mod Standing
pub mod Words
pub mod Owed
pub mod Accounts
pub mod Returns
pub use Rattle.ftd_days.specs.Calendar
pub use Rattle.ftd_machine.specs.History
pub use Rattle.ftd_machine.specs.Kept as MachineKept
pub use Rattle.ftd_machine.specs.Sound
pub use Rattle.ftd_machine.specs.State
pub use Rattle.ftd_store.specs.Lists
pub use Rattle.ftd_rules.specs.Liability
pub use Rattle.ftd_sql.specs.Beginnings
pub use Rattle.ftd_store.specs.Finds
pub use Rattle.ftd_store.specs.Frame
pub use Rattle.ftd_store.specs.Kept as StoredKept
pub use Rattle.ftd_store.specs.Seen
