-- A year is put where it had no row.
use Rattle.std.proofs.Common.{◌≡◌, [], ◌∷◌, ◌++◌, Result, Ok, Err, ap, ◌∙◌, arith}
use Rattle.std.specs.Prelude.{filter}
use Rattle.sqlite.specs.Store as store
use Rattle.sqlite.specs.State.{HasCleanDisk, Executes}
use Rattle.ftd_sql.specs.declared.TableName.{TableName}
use Rattle.ftd_sql.specs.declared.TableName.TheVariants.{Years}
use Rattle.ftd_sql.specs.Rows.{YearRow, cells_of}
use Rattle.ftd_sql.specs.Standing.{Tables, with_rows}
use Rattle.ftd_sql.proofs.OneOfAll.{set_twice, stands_same, foreign_then}
use Rattle.ftd_sql.specs.declared.texts.TheConstants.{SET_YEAR}
use Rattle.ftd_sql.specs.Tests.{is_year}
use Rattle.ftd_sql.proofs.Meanings.{figures_set}
use Rattle.ftd_store.specs.declared.faults.StoreFault.{StoreFault}
use Rattle.ftd_store.specs.declared.tx.Tx.{Tx}
use Rattle.ftd_store.specs.Changes.{adding, put_among}
use Rattle.ftd_store.specs.Seen.{shown}
use Rattle.ftd_store.specs.Frame.{Frame, Writes}
use Rattle.ftd_store.proofs.Going.{goes_on, then_goes, then_fails}
use Rattle.ftd_store.proofs.YearRows.{put_in_place, put_last}

-- the row that is added where none was changed is the one that is put
same_rows : (y : YearRow) (t : Tables) → filter (is_year y.account y.year) (t Years) ≡ []
    → (n : TableName)
    → adding Years y (with_rows Years (t Years) t) n ≡ with_rows Years
    (put_among (filter (is_year y.account y.year) (t Years)) y (t Years)) t n
same_rows y t none n = set_twice Years (t Years) (t Years ++ y ∷ []) t n
    ∙ ap (λ rows. with_rows Years rows t n) (put_last y (t Years) none)

-- the row takes the place of the one that the year had
pub puts_in_place : {S A B : Type 0} (g : store.Ghosts S) (old new : Tx S) (x : A) (z : B)
    (y : YearRow) → Frame g old new (Ok x)
    → (HasCleanDisk (shown g new) → Executes SET_YEAR.now (cells_of Years y) (shown g old)
    (shown g new) (Ok 1))
    → Writes g old new (Ok z)
    (λ t. with_rows Years (put_among (filter (is_year y.account y.year) (t Years)) y (t Years)) t)
puts_in_place g old new x z y p ran = record {
  frame = goes_on g old new x z p;
  does = λ clean t stands.
      let made = (figures_set y (shown g old) (shown g new) t stands).0 (ran clean) in (
        stands_same (shown g new).now _ _ (λ n. ap (λ rows. with_rows Years rows t n)
            (put_in_place y made.1.0 _ (t Years) made.1.1)) made.0.0,
        made.0.1,
      );
}

pub puts_after : {S A : Type 0} (g : store.Ghosts S) (old mid new : Tx S) (x : A)
    (result : Result (Unit {0}) StoreFault) (y : YearRow) → Frame g old mid (Ok x)
    → (HasCleanDisk (shown g mid) → Executes SET_YEAR.now (cells_of Years y) (shown g old)
    (shown g mid) (Ok 0)) → Writes g mid new result (adding Years y)
    → Writes g old new result
    (λ t. with_rows Years (put_among (filter (is_year y.account y.year) (t Years)) y (t Years)) t)
puts_after g old mid new x (Ok z) y p ran q = record {
  frame = then_goes z p q.frame;
  does = λ clean t stands.
      let one = (figures_set y (shown g old) (shown g mid) t stands).1
      (ran (omega (arith, q.frame.crash.clean))) in
      let two = q.does clean (with_rows Years (t Years) t) one.0.0 in (
        stands_same (shown g new).now _ _ (same_rows y t one.1) two.0,
        foreign_then (shown g old).now
            (shown g mid).now (shown g new).now one.0.1 two.1,
      );
}
puts_after g old mid new x (Err e) y p ran q =
    record { frame = then_fails p q.frame; does = λ clean. tt }
