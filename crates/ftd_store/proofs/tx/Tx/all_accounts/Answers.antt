use Rattle.ftd_sql.specs.Tests.{is_any_account}
use Rattle.ftd_sql.proofs.Meanings.{enrolled_in_order}
use Rattle.ftd_store.specs.Kept.{IsNamedAccount}
use Rattle.ftd_sql.specs.declared.TableName.TheVariants.{Accounts}
use Rattle.ftd_store.proofs.SameKept.{named_account_is}
use Rattle.ftd_store.proofs.Telling.{lists}
use Rattle.ftd_store.proofs.tx.Tx.all_accounts.Goals as goal

pub returns : goal.returns
returns g c = record {
  call = lists (λ xs. xs.items) Accounts is_any_account IsNamedAccount enrolled_in_order
      (λ x y passes. named_account_is x y) c.read_all.ensures.call;
}
