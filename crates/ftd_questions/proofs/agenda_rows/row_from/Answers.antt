use Rattle.std.proofs.Common.{rules}
use Rattle.ftd_store.proofs.Items.{has_at}
use Rattle.ftd_questions.proofs.agenda_rows.row_from.Goals as goal

pub returns-then-eq : goal.returns-then-eq
returns-then-eq c = (
  has_at c.args.rows.now c.loop-row.row-index c.row-item.result c.loop-row-test.true c.row-item.is,
  search (rules, c.if-eq.true, c.eq.ensures),
)
