-- The hints that a reader of records has left. Private contracts speak of it.
use Rattle.std.specs.Prelude.{ℕ, ◌+◌, List, filter, take}
use Rattle.std.specs.List.{enumerate_from, flat_map}
use Rattle.ftd_csv.specs.Places.{number_of, rows_after, sheet_of}
use Rattle.ftd_csv.specs.declared.reading.Records.{Records}
use Rattle.ftd_csv.specs.Hints.{Numbered, is_malformed, row_hint}

-- the malformed records after the one at which it stands
abbrev pub malformed_left : Records → List Numbered
malformed_left records =
    filter (is_malformed (sheet_of records))
    (enumerate_from (number_of records + 1) (rows_after records))

-- the hints of so many of them at most
abbrev pub hints_left : ℕ → Records → List ℕ
hints_left most records = flat_map (row_hint (sheet_of records))
    (take most (malformed_left records))
