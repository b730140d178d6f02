use Rattle.std.proofs.Common.{ℕ, subst, List, Option, None, Some}
use Rattle.ftd_days.specs.Holidays.{holidays_of}
use Rattle.ftd_store.proofs.Telling.{reads_on}
use Rattle.ftd_check.specs.Accounts.{ChecksAccount, name_read}
use Rattle.ftd_check.specs.OwnRows.{ReadsOwn}
use Rattle.ftd_check.specs.declared.own_rows.OwnRows.{OwnRows}
use Rattle.ftd_check.proofs.AccountChecked.{unreadable, found_unsound, found_right}
use Rattle.ftd_check.proofs.accounts.check_account.Goals as goal

pub returns-in_default : goal.returns-in_default
returns-in_default g c =
    let a = c.args.account.now in
    let given = c.args.given.now in
    let holidays : List ℕ = holidays_of c.args.holidays.now in
    record {
      call = reads_on None (ChecksAccount a given holidays) c.in_ok-rows.ensures.call
          (λ t read. unreadable a given holidays t
          (subst (λ (n : List ℕ). ReadsOwn n a.account None t) c.deref.ensures
          (subst (λ (x : Option OwnRows). ReadsOwn c.deref.result.now a.account x t)
          c.in_default.is read)));
    }

pub returns-in-Ok-true : goal.returns-in-Ok-true
returns-in-Ok-true g c =
    let a = c.args.account.now in
    let given = c.args.given.now in
    let holidays : List ℕ = holidays_of c.args.holidays.now in
    let rows = c.in-Some.rows in
    record {
      call = reads_on (Some c.own_sizes.result) (ChecksAccount a given holidays)
          c.in_ok-rows.ensures.call
          (λ t read. found_right a given holidays t rows
          (subst (λ (n : List ℕ). ReadsOwn n a.account (Some rows) t) c.deref.ensures
          (subst (λ (x : Option OwnRows). ReadsOwn c.deref.result.now a.account x t)
          c.in-Some.is read)) c.in-Ok-true.field-0
          (c.in-Ok-true.ensures (name_read a)) c.in-Ok-true.field-0-test c.own_sizes.result
          c.own_sizes.ensures);
    }

pub returns-in-Ok-false : goal.returns-in-Ok-false
returns-in-Ok-false g c =
    let a = c.args.account.now in
    let given = c.args.given.now in
    let holidays : List ℕ = holidays_of c.args.holidays.now in
    let rows = c.in-Some.rows in
    record {
      call = reads_on None (ChecksAccount a given holidays) c.in_ok-rows.ensures.call
          (λ t read. found_unsound a given holidays t rows
          (subst (λ (n : List ℕ). ReadsOwn n a.account (Some rows) t) c.deref.ensures
          (subst (λ (x : Option OwnRows). ReadsOwn c.deref.result.now a.account x t)
          c.in-Some.is read)) c.in-Ok-false.field-0
          (c.in-Ok-false.ensures (name_read a)) c.in-Ok-false.field-0-test);
    }
