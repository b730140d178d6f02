-- Rows that begin with others, decided one after the other.
use Rattle.std.proofs.Common.{◌≡◌, ◌∙◌, ◌↔◌, sym, ap, List}
use Rattle.std.proofs.Common.{◌∷◌, ◌++◌, map}
use Rattle.std.specs.Prelude.{flat_map}
use Rattle.std.proofs.lemmas.List.{append_cancel_left}
use Rattle.std.proofs.lemmas.List.Concat.{flat_map-cons}
use Rattle.ftd_sql.specs.Rows.{HolidayRow}
use Rattle.ftd_entries.specs.Standing.{holiday_entries}
use Rattle.ftd_sound.specs.Days.{calendar_in}
use Rattle.ftd_sound.specs.declared.days.Calendar.{Calendar}

-- ---- rows that begin with these

-- all rows begin with all of these exactly where those that are left begin with what is left
abbrev pub Begin : {R : Type 0} → List R → List R → List R → List R → Type 0
Begin {R = R} rows all left days = (rest : List R) → (rows ≡ all ++ rest) ↔ (left ≡ days ++ rest)

-- ---- from all calendars to those that are left

-- the whole decides as what is left does
abbrev pub DecidedBy : Type 0 → Type 0 → Type 0
DecidedBy Whole Left = (Left → Whole) × (Whole → Left)

abbrev pub rows_in : List Calendar → List HolidayRow
rows_in calendars = flat_map holiday_entries (map calendar_in calendars)

module _ (Whole : Type 0) (rows : List HolidayRow) (left : List Calendar) (c : Calendar)
    (later : List Calendar) (is : left ≡ c ∷ later)
    (decided : DecidedBy Whole (rows ≡ rows_in left)) where
  rows_with : rows_in left ≡ holiday_entries (calendar_in c) ++ rows_in later
  rows_with = ap rows_in is ∙ flat_map-cons holiday_entries (calendar_in c) (map calendar_in later)

  -- where the rows begin with those of the first calendar, the rest decides
  pub decided_rest : (rest : List HolidayRow) → rows ≡ holiday_entries (calendar_in c) ++ rest
      → DecidedBy Whole (rest ≡ rows_in later)
  decided_rest rest begin = (
    (λ same. decided.0 (begin
        ∙ ap (λ (rs : List HolidayRow). holiday_entries (calendar_in c) ++ rs) same
        ∙ sym rows_with)),
    (λ whole. append_cancel_left (holiday_entries (calendar_in c)) rest (rows_in later)
        (sym begin ∙ decided.1 whole ∙ rows_with)),
  )
