-- What is answered where the rows of ftd_meta are known.
use Rattle.std.proofs.Common.{inl, inr, ℕ, List, Bool, Ok, Err}
use Rattle.std.specs.Prelude.{Result, IsErrAnd}
use Rattle.std.specs.List.Sorted.{IsPermutation}
use Rattle.sqlite.specs.Order.{Row}
use Rattle.sqlite.specs.State.{State}
use Rattle.ftd_sql.specs.Places.{Holds}
use Rattle.ftd_sql.specs.declared.TableName.TheVariants.{Metas}
use Rattle.ftd_sql.specs.Names.{name_of}
use Rattle.ftd_sql.specs.Rows.{MetaRow, cells_of}
use Rattle.ftd_sql.specs.Layout.{table_of}
use Rattle.ftd_sql.specs.Answers.{meta_shown}
use Rattle.std.specs.Prelude.{map}
use Rattle.ftd_sql.proofs.Meanings.{shows_metas}
use Rattle.ftd_setup.specs.declared.opening.OpenFault.{OpenFault}
use Rattle.ftd_setup.specs.declared.opening.OpenFault.TheVariants.{NotOurs, Newer, Store}
use Rattle.ftd_sql.specs.Beginnings.{HasVersion}
use Rattle.ftd_setup.specs.Versions.{has_later, ReadsVersion, IsStoreFault, Opens, OpensByReading}
use Rattle.ftd_setup.proofs.Readings.{has_version, reads_version}

opens_as : (old new : State) (metas : List MetaRow) (rows : List Row) (taken : ℕ → Bool)
    (r : Result (Unit {0}) OpenFault) → IsPermutation (map meta_shown metas) rows
    → Opens old new (ReadsVersion rows) taken r → Opens old new (HasVersion metas) taken r
opens_as old new metas rows taken (Ok opened) moved (inl h) =
    inl (has_version metas rows 3 moved h.0, h.1)
opens_as old new metas rows taken (Ok opened) moved (inr h) =
    inr (h.0, h.1, has_version metas rows h.0 moved h.2, h.3, h.4, h.5)
opens_as old new metas rows taken (Err (Newer version)) moved h =
    (h.0, has_version metas rows version moved h.1)
opens_as old new metas rows taken (Err NotOurs) moved h = λ version some has. h version some
    (reads_version metas rows version moved has)
opens_as old new metas rows taken (Err (Store fault)) moved h = tt

fault_opens : (old new : State) (Is : ℕ → Type 0) (taken : ℕ → Bool)
    (r : Result (Unit {0}) OpenFault)
    → IsErrAnd r IsStoreFault → Opens old new Is taken r
fault_opens old new Is taken (Ok opened) h = absurd h
fault_opens old new Is taken (Err (Newer version)) h = absurd h
fault_opens old new Is taken (Err NotOurs) h = absurd h
fault_opens old new Is taken (Err (Store fault)) h = tt

-- where ftd_meta stands, its rows say what the opening answers
pub opens_rows : {acted : Bool} (old new : State) (metas : List MetaRow)
    (r : Result (Unit {0}) OpenFault) → Holds acted old.now (name_of Metas) (table_of Metas)
    (cells_of Metas) metas → OpensByReading old new r
    → Opens old new (HasVersion metas) (has_later old.now.schema) r
opens_rows old new metas r l (inl h) = fault_opens old new (HasVersion metas) _ r h
opens_rows old new metas r l (inr h) = opens_as old new metas h.0 _ r
    (shows_metas old old h.0 metas l h.1) h.2
