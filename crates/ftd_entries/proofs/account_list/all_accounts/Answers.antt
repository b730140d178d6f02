use Rattle.std.proofs.Common.{rules, ◌≡◌, true}
use Rattle.std.specs.List.{list_all}
use Rattle.ftd_rules.specs.Lists.{are_in_order}
use Rattle.ftd_store.proofs.Telling.{reads_on}
use Rattle.ftd_entries.specs.Accounts.{KnowsAccounts, has_account_name, is_account_before}
use Rattle.ftd_entries.proofs.KeptEnrolled.{knows_accounts}
use Rattle.ftd_entries.proofs.AccountOrder.{accounts_in_order}
use Rattle.ftd_entries.proofs.account_list.all_accounts.Goals as goal

pub returns : goal.returns
returns g c =
    let rows = c.in_ok-rows.rows in
    let names : list_all has_account_name rows.items ≡ true = search rules in
    let order : are_in_order is_account_before rows.items ≡ true = search rules in
    record {
      call = reads_on rows (λ xs. KnowsAccounts xs.items) c.in_ok-rows.ensures.call
          (λ t told. knows_accounts rows.items t names (accounts_in_order rows.items order)
          told);
    }
