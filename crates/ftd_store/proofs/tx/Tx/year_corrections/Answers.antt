use Rattle.std.proofs.Common.{pos, rules}
use Rattle.ftd_store.specs.Corrections.{IsCorrectionOfYear}
use Rattle.ftd_sql.specs.declared.TableName.TheVariants.{CorrectedYears}
use Rattle.ftd_sql.proofs.Meanings.{year_corrections_in_order}
use Rattle.ftd_store.proofs.SameCorrections.{correction_of_year_is}
use Rattle.ftd_store.proofs.Telling.{lists}
use Rattle.ftd_store.proofs.tx.Tx.year_corrections.Goals as goal

pub returns : goal.returns
returns g c = record {
  call = lists (λ xs. xs.items) CorrectedYears _ (IsCorrectionOfYear c.args.account.now c.args.year)
      (year_corrections_in_order c.args.account.now (pos c.args.year))
      (correction_of_year_is c.args.account.now c.args.year) (search rules);
}
