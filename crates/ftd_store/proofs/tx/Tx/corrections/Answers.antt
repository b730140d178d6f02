use Rattle.std.proofs.Common.{pos, rules}
use Rattle.ftd_store.specs.Corrections.{IsCorrection}
use Rattle.ftd_sql.specs.declared.TableName.TheVariants.{CorrectedQuarters}
use Rattle.ftd_sql.proofs.Meanings.{corrections_in_order}
use Rattle.ftd_days.specs.Calendar.{quarter_year, quarter_number}
use Rattle.ftd_store.proofs.SameCorrections.{correction_is}
use Rattle.ftd_store.proofs.Telling.{lists}
use Rattle.ftd_store.proofs.tx.Tx.corrections.Goals as goal

pub returns : goal.returns
returns g c = record {
  call = lists (λ xs. xs.items) CorrectedQuarters _ (IsCorrection c.args.account.now c.args.quarter)
      (corrections_in_order c.args.account.now (pos (quarter_year c.args.quarter))
      (pos (quarter_number c.args.quarter))) (correction_is c.args.account.now c.args.quarter)
      (search rules);
}
