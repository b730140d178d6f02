-- How a database is told to be the desk's, and what it becomes when it is opened.
use Rattle.std.specs.Prelude.{◌≡◌, ◌<◌, ◌≤◌, ◌&&◌, ℕ, pos, Bool, true, false, List, [], ◌∷◌, codes}
use Rattle.std.specs.Prelude.{Option, Some, None, Result, Ok, Err, IsErrAnd, IfErr, OnOk}
use Rattle.std.specs.Prelude.{OnErr, IsTrue, ⊤, ◌⊎◌, is_some, option_and_then, slice_get}
use Rattle.sqlite.specs.Effect.{Database}
use Rattle.sqlite.specs.Order.{Row}
use Rattle.sqlite.specs.Schema.{Schema}
use Rattle.sqlite.specs.State.{State, Shown, IsUnchanged, HasCleanDisk, Survives}
use Rattle.sqlite.specs.Table.{Table}
use Rattle.sqlite.specs.Tree.{Trees}
use Rattle.sqlite.specs.declared.types.Value.TheVariants.{Int, Text}
use Rattle.sqlite_schema.specs.Names.{table_named, column_named}
use Rattle.ftd_sql.specs.Places.{KeepsTables, Holds}
use Rattle.ftd_sql.specs.declared.TableName.TheVariants.{Metas}
use Rattle.ftd_sql.specs.Names.{name_of, all_names, later_names, has_any}
use Rattle.ftd_sql.specs.Layout.{table_of}
use Rattle.ftd_sql.specs.Rows.{cells_of, MetaRow}
use Rattle.ftd_sql.specs.Standing.{Tables, Stands}
use Rattle.ftd_sql.specs.Beginnings.{HasVersion, IsMade, IsEarlier, IsMigratedFrom, IsMigrated}
use Rattle.ftd_sql.specs.Making.{IsFree}
use Rattle.ftd_sql.specs.States.{ShowsAgain}
use Rattle.ftd_sql.specs.declared.texts.TheConstants.{LIST_METAS}
use Rattle.ftd_setup.specs.declared.opening.Change.{Change}
use Rattle.ftd_setup.specs.declared.opening.Change.TheVariants.{Make, MigrateFirst, MigrateSecond}
use Rattle.ftd_setup.specs.declared.opening.OpenFault.{OpenFault}
use Rattle.ftd_setup.specs.declared.opening.OpenFault.TheVariants.{NotOurs, Newer, Store}

-- ---- what is there

-- none of the sixteen names is taken
abbrev pub IsNew : Schema → Type 0
IsNew s = has_any all_names s ≡ false

-- the name of a table that came after this version is taken
abbrev pub has_later : Schema → ℕ → Bool
has_later s version = has_any (later_names version) s

abbrev has_columns : Option Table → Bool
has_columns (Some t) =
    is_some (column_named t (codes "tag")) && is_some (column_named t (codes "version"))
has_columns None = false

-- ftd_meta is a table with a tag and a version
abbrev pub is_tagged : Schema → Bool
is_tagged s = has_columns (option_and_then (slice_get s.tables) (table_named s (codes "ftd_meta")))

-- the rows of ftd_meta, as they are read, are that of this version alone
abbrev pub ReadsVersion : List Row → ℕ → Type 0
ReadsVersion rows version = rows ≡ (Text (codes "ftd") ∷ Int (pos version) ∷ []) ∷ []

-- ---- what it becomes

-- the desk's tables have the rows that they had, and every other table is as it was
abbrev pub KeepsRows : Database → Database → Type 0
KeepsRows old new = (t : Tables) → Stands old t → Stands new t × KeepsTables old new

-- what is done in one transaction
abbrev pub Becomes : Change → Database → Database → Type 0
Becomes Make old new = IsNew old.schema → IsFree old.schema → IsMade old new
Becomes MigrateFirst old new = IsMigratedFrom 1 old new
Becomes MigrateSecond old new = IsMigratedFrom 2 old new

-- what a crash may leave of it, beside what there was: all of it
abbrev pub MayBecome : Change → Database → Trees → Type 0
MayBecome how old left = (db : Database) × (left ≡ db.trees) × Becomes how old db

-- what a crash may leave of an earlier version, beside what there was: version 3 in whole
abbrev pub MayBeMigrated : Database → Trees → Type 0
MayBeMigrated old left = (db : Database) × (left ≡ db.trees) × IsMigrated old db

-- what a crash may leave of a database that is being opened, beside what there was: version 3 in
-- whole
abbrev pub MayBeOpened : Database → Trees → Type 0
MayBeOpened old left =
    ((is_tagged old.schema ≡ false) × MayBecome Make old left)
    ⊎ ((is_tagged old.schema ≡ true) × MayBeMigrated old left)

-- ---- what is answered

-- how a database with this version was opened: version 3 as it is, version 1 or 2 by migration,
-- where the name of no table that came later is taken
abbrev pub Opens : State → State → (ℕ → Type 0) → (ℕ → Bool) → Result (Unit {0}) OpenFault → Type 0
Opens old new Is taken (Ok opened) =
    (Is 3 × IsUnchanged old new)
    ⊎ ((version : ℕ) × IsEarlier version × Is version × (taken version ≡ false)
    × IsMigrated old.now new.now × (new.committed ≡ new.now))
Opens old new Is taken (Err (Newer version)) = (3 < version) × Is version
Opens old new Is taken (Err NotOurs) =
    (version : ℕ) → 1 ≤ version → Is version → IsEarlier version × (taken version ≡ true)
Opens old new Is taken (Err (Store fault)) = ⊤

-- a fault of the store says nothing of what the database is
abbrev pub IsStoreFault : OpenFault → Type 0
IsStoreFault (Store fault) = ⊤
IsStoreFault e = ⊥

-- the answer follows from what ftd_meta would show to a reading before
abbrev pub OpensByReading : State → State → Result (Unit {0}) OpenFault → Type 0
OpensByReading old new r =
    IsErrAnd r IsStoreFault
    ⊎ ((rows : List Row) × Shown LIST_METAS.now [] old old rows
    × Opens old new (ReadsVersion rows) (has_later old.now.schema) r)

-- how an opening ended: what the database was, what is seen of it then, and the answer
pub record Opening (old new : State) (r : Result (Unit {0}) OpenFault) : Type 0 where
  -- a new database is given the tables
  pub new_database : IsNew old.now.schema → IsFree old.now.schema → HasCleanDisk new
      → OnOk r (IsMade old.now new.now × (new.committed ≡ new.now))
  pub never_refused : IsNew old.now.schema → IfErr r IsStoreFault
  -- where one of the names is taken, and ftd_meta can not be read, it is not the desk's
  pub foreign : has_any all_names old.now.schema ≡ true → is_tagged old.now.schema ≡ false
      → r ≡ Err NotOurs
  -- else what ftd_meta shows decides, and so do its rows where it is the desk's own table
  pub read : is_tagged old.now.schema ≡ true → HasCleanDisk new → OpensByReading old new r
  pub version : (metas : List MetaRow)
      → Holds false old.now (name_of Metas) (table_of Metas) (cells_of Metas) metas
      → HasCleanDisk new → Opens old new (HasVersion metas) (has_later old.now.schema) r
  -- whatever the fault, the rows are as they were
  pub kept : HasCleanDisk new → IsTrue new.is_open → OnErr r (ShowsAgain old new)
  -- a crash finds what it would have found, or version 3 in whole
  pub crash : Survives old new (MayBeOpened old.now)
