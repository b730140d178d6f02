pub mod Faults
pub mod Plain
pub mod Taking
pub use Rattle.ftd_csv.specs.Places
pub use Rattle.ftd_csv.specs.Records
pub use Rattle.ftd_days.specs.Calendar
pub use Rattle.ftd_days.specs.Holidays
pub use Rattle.ftd_rules.specs.Liability
