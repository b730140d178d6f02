use Rattle.std.proofs.Common.{◌≡◌, ◌<◌, ◌≤◌, ℕ, false}
use Rattle.std.specs.List.{list_any}
use Rattle.sqlite.specs.State.{HasCleanDisk}
use Rattle.ftd_sql.specs.Standing.{Tables}
use Rattle.ftd_store.specs.Seen.{seen}
use Rattle.ftd_machine.specs.State.{State}
use Rattle.ftd_entries.specs.Standing.{StandsFor}
use Rattle.ftd_questions.specs.DueRows.{is_next_day_row}
use Rattle.ftd_questions.specs.Walks.{Stays, StandIfOpen, begun}
use Rattle.ftd_questions.proofs.walking.return_has_next_day.Given as goal

abbrev pub invariant-loop-quarters : goal.invariant-loop-quarters
invariant-loop-quarters g l = record {
  stays : Stays (seen g.S.Store l.fn.store) (seen g.S.Store l.store);
  none : HasCleanDisk (seen g.S.Store l.store) → (t : Tables)
      → StandIfOpen (seen g.S.Store l.fn.store) t
      → (s : State) (stands : StandsFor t s) (quarter : ℕ) → l.first ≤ quarter
      → quarter < l.quarters
      → list_any is_next_day_row (begun stands l.name quarter) ≡ false;
}
