use Rattle.std.proofs.Common.{◌≡◌, List}
use Rattle.ftd_rules.specs.declared.Obligation.{Obligation}
use Rattle.ftd_rules.specs.declared.verdict.DueRow.{DueRow}
use Rattle.ftd_store.specs.Lists.{Pairs}
use Rattle.ftd_store.specs.Walking.{walked}
use Rattle.ftd_questions.specs.DueRows.{IsRowBy}
use Rattle.ftd_questions.specs.Telling.{HasTaken}
use Rattle.ftd_questions.specs.Walks.{Stays}
use Rattle.ftd_questions.proofs.Walked.{WalksTo}
use Rattle.ftd_questions.proofs.telling.tell_rows.Given as goal

abbrev pub invariant-loop : goal.invariant-loop
invariant-loop g l = record {
  same : l.rows.conn.ghost_name ≡ l.fn.rows.conn.ghost_name;
  stays : Stays (walked g.S.Store l.fn.rows) (walked g.S.Store l.rows);
  told : (listed : List Obligation) × (told : List DueRow) × Pairs (IsRowBy l.of_return l.as_of)
      listed told × HasTaken g.K.DueSink.took l.fn.sink told l.sink
      × WalksTo g.S.Store l.fn.rows l.rows listed;
}
