use Rattle.std.proofs.Common.{ℕ, List, subst}
use Rattle.std.specs.Prelude.{filter}
use Rattle.ftd_sql.specs.declared.TableName.TheVariants.{Obligations}
use Rattle.ftd_sql.specs.Tests.{is_obligation}
use Rattle.ftd_store.specs.Cells.{day_number}
use Rattle.ftd_store.specs.Changes.{with_due_date}
use Rattle.ftd_store.specs.Frame.{WritesOne}
use Rattle.ftd_posting.proofs.moving.move_row.Goals as goal

pub returns : goal.returns
returns g c =
    let first : ℕ = c.args.owed.now.obligation.first in
    record {
      call = subst (λ (account : List ℕ). WritesOne g.S.Store c.args.tx.now c.move_due.new.self
          c.move_due.result
          (λ t. filter (is_obligation account (day_number first)) (t Obligations))
          (with_due_date account first c.args.due)) c.deref-account.ensures
          c.move_due.ensures.call;
    }
