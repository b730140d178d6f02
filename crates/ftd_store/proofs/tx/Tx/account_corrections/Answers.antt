use Rattle.std.proofs.Common.{rules}
use Rattle.ftd_store.specs.Corrections.{IsAccountCorrection}
use Rattle.ftd_sql.specs.declared.TableName.TheVariants.{CorrectedAccounts}
use Rattle.ftd_sql.proofs.Meanings.{account_corrections_in_order}
use Rattle.ftd_store.proofs.SameCorrections.{account_correction_is}
use Rattle.ftd_store.proofs.Telling.{lists}
use Rattle.ftd_store.proofs.tx.Tx.account_corrections.Goals as goal

pub returns : goal.returns
returns g c = record {
  call = lists (λ xs. xs.items) CorrectedAccounts _ (IsAccountCorrection c.args.account.now)
      (account_corrections_in_order c.args.account.now) (account_correction_is c.args.account.now)
      (search rules);
}
