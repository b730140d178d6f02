use Rattle.std.proofs.Common.{◌≡◌, take}
use Rattle.csv.specs.Records.{fields_of}
use Rattle.ftd_csv.specs.Sheets.{header_row}
use Rattle.ftd_csv.proofs.sheets.is_header.Given as goal

-- the fields up to here are those of the header
abbrev pub invariant-loop-place : goal.invariant-loop-place
invariant-loop-place l =
    take l.place (fields_of l.row) ≡ take l.place (header_row l.fn.sheet)
