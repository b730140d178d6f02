-- What the reading of a text answers.
use Rattle.std.specs.Prelude.{◌<◌, ◌≤◌, ℕ, List, length, ⊤}
use Rattle.ftd_csv.specs.declared.reading.TheConstants.{MOST_BYTES}
use Rattle.ftd_csv.specs.Records.{HasHeader}
use Rattle.ftd_csv.specs.declared.reading.RecordFault.{RecordFault}
use Rattle.ftd_csv.specs.declared.reading.RecordFault.TheVariants as fault
use Rattle.ftd_csv.specs.declared.sheets.Sheet.{Sheet}

-- where each fault stands; want of memory may come at any point
abbrev pub RecordsFail : Sheet → List ℕ → RecordFault → Type 0
RecordsFail kind text fault.TooLong = MOST_BYTES < length text
RecordsFail kind text fault.BadHeader = (length text ≤ MOST_BYTES) × ¬ HasHeader kind text
RecordsFail kind text fault.Memory = ⊤
