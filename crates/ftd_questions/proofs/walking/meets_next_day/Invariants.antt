use Rattle.std.proofs.Common.{◌≡◌, List, false}
use Rattle.std.specs.List.{list_any}
use Rattle.ftd_rules.specs.declared.Obligation.{Obligation}
use Rattle.ftd_store.specs.Walking.{walked}
use Rattle.ftd_questions.specs.DueRows.{is_next_day_row}
use Rattle.ftd_questions.specs.Walks.{Stays}
use Rattle.ftd_questions.proofs.Walked.{WalksTo}
use Rattle.ftd_questions.proofs.walking.meets_next_day.Given as goal

abbrev pub invariant-loop : goal.invariant-loop
invariant-loop g l = record {
  same : l.rows.conn.ghost_name ≡ l.fn.rows.conn.ghost_name;
  stays : Stays (walked g.S.Store l.fn.rows) (walked g.S.Store l.rows);
  listed : (listed : List Obligation) × (list_any is_next_day_row listed ≡ false)
      × WalksTo g.S.Store l.fn.rows l.rows listed;
}
