use Rattle.std.proofs.Common.{◌≡◌, true, Ok, length}
use Rattle.ftd_days.specs.Holidays.{holidays_of}
use Rattle.ftd_rules.specs.Accounts.{is_account_name}
use Rattle.ftd_rules.specs.Lists.{Has}
use Rattle.ftd_store.specs.Frame.{Reads}
use Rattle.ftd_store.specs.declared.kept_cells.NamedAccount.{NamedAccount}
use Rattle.ftd_check.specs.Accounts.{AreNames, name_read}
use Rattle.ftd_check.proofs.AccountsChecked.{SoFar}
use Rattle.ftd_check.proofs.accounts.check_accounts.Given as goal

abbrev pub invariant-loop-account : goal.invariant-loop-account
invariant-loop-account g l = record {
  call : Reads g.S.Store l.fn.tx l.tx (Ok (tt {0}))
      (λ done t. SoFar t l.fn.given (holidays_of l.fn.holidays) l.initial.left l.left l.sizes);
  names : AreNames l.initial.left;
  left : (a : NamedAccount) → Has l.left a → is_account_name (name_read a) ≡ true;
}

abbrev pub decreases-loop-account : goal.decreases-loop-account
decreases-loop-account g l = length l.left
