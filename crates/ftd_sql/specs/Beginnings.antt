-- How the desk's tables begin: made in a new database, or migrated from those of version 1 or 2.
use Rattle.std.specs.Prelude.{◌≡◌, ◌⊎◌, ◌<◌, ◌≤◌, ℕ, pos, false, List, [], ◌∷◌, codes, map}
use Rattle.std.specs.List.Sorted.{IsPermutation}
use Rattle.sqlite.specs.Effect.{Database}
use Rattle.sqlite.specs.Does.{lacks_sequence}
use Rattle.ftd_sql.specs.Places.{KeepsTables}
use Rattle.ftd_sql.specs.declared.TableName.{TableName}
use Rattle.ftd_sql.specs.declared.TableName.TheVariants.{Metas, Accounts, Forms}
use Rattle.ftd_sql.specs.Names.{since}
use Rattle.ftd_sql.specs.Rows.{MetaRow, AccountRow, FormRow}
use Rattle.ftd_sql.specs.Standing.{Tables, no_rows, with_rows, Stands, KeepsForeign, StandsAs}

-- ---- the mark

-- the mark of a database of the desk, with the version of its tables
abbrev pub tag_row : ℕ → MetaRow
tag_row version = record { tag = codes "ftd"; version = pos version }

-- ftd_meta has the mark of this version, and no other row
abbrev pub HasVersion : List MetaRow → ℕ → Type 0
HasVersion metas version = metas ≡ tag_row version ∷ []

-- ---- made

-- the rows of new tables: the mark of version 3, and nothing else
abbrev pub new_tables : Tables
new_tables = with_rows Metas (tag_row 3 ∷ []) no_rows

-- the sixteen tables were made: they are empty but for the mark of version 3, and every other table
-- is as it was
abbrev pub IsMade : Database → Database → Type 0
IsMade old new = Stands new new_tables × KeepsTables old new

-- ---- migrated

-- the version is one that is migrated: 1 or 2
abbrev pub IsEarlier : ℕ → Type 0
IsEarlier version = (version ≡ 1) ⊎ (version ≡ 2)

-- an account on Form 941, as every account of version 1 is
abbrev pub on_form_941 : AccountRow → FormRow
on_form_941 a = record { account = a.name; form = pos 0 }

-- the rows of version 3 that stand for those of this version
pub record IsMigration (version : ℕ) (before after : Tables) : Type 0 where
  pub mark : HasVersion (after Metas) 3
  -- each account of version 1 is on Form 941
  pub forms : version ≡ 1 → IsPermutation (map on_form_941 (before Accounts)) (after Forms)
  -- the other tables that came after the version have no rows
  pub later : (n : TableName) → version < since n → (n ≡ Forms → ⊥) → after n ≡ []
  -- and those that it had, but for that of the mark, have the rows that they had
  pub others : (n : TableName) → since n ≤ version → (n ≡ Metas → ⊥) → after n ≡ before n

-- the tables of this version became those of version 3, and every table of another name is as it
-- was
abbrev pub IsMigratedFrom : ℕ → Database → Database → Type 0
IsMigratedFrom version old new =
    (before : Tables) → StandsAs version old before → HasVersion (before Metas) version
    → lacks_sequence old.schema ≡ false
    → ((after : Tables) × Stands new after × IsMigration version before after)
    × KeepsForeign old new

-- so from whichever earlier version its tables were of
abbrev pub IsMigrated : Database → Database → Type 0
IsMigrated old new = (version : ℕ) → IsEarlier version → IsMigratedFrom version old new
