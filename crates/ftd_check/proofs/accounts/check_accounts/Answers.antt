use Rattle.std.proofs.Common.{◌≡◌, ◌∙◌, ℕ, inl, inr, refl, sym, ap, subst, rules, true, List, map}
use Rattle.std.proofs.Common.{Option, Some, Vec, Global, Ok, Err}
use Rattle.std.proofs.lemmas.Bool.{true≢false}
use Rattle.std.proofs.lemmas.List.{nil_from_length}
use Rattle.ftd_days.specs.Holidays.{holidays_of}
use Rattle.ftd_rules.specs.Accounts.{is_account_name}
use Rattle.ftd_rules.specs.Lists.{Has}
use Rattle.ftd_sql.specs.Standing.{Tables}
use Rattle.ftd_sql.specs.declared.TableName.TheVariants.{Accounts}
use Rattle.ftd_store.specs.Added.{AccountsByRow, named_account_row}
use Rattle.ftd_store.specs.declared.kept_cells.NamedAccount.{NamedAccount}
use Rattle.ftd_store.proofs.Going.{fails_after}
use Rattle.ftd_store.proofs.Telling.{reads_on, then_reads}
use Rattle.ftd_check.specs.Accounts.{AreNames, ChecksAccount, ChecksAccounts, ShowsBad, name_read}
use Rattle.ftd_check.specs.declared.soundness.Part.{Part}
use Rattle.ftd_check.specs.declared.soundness.Part.TheVariants as part
use Rattle.ftd_check.specs.declared.sizes.Sizes.{Sizes}
use Rattle.ftd_check.proofs.AccountsChecked.{SoFar, none_read, no_such_names, none_so_far}
use Rattle.ftd_check.proofs.AccountsChecked.{one_unsound, one_more_sound, all_so_far}
use Rattle.ftd_check.proofs.accounts.check_accounts.Goals as goal

-- the rows that were read
listed : (found : Option (Vec NamedAccount Global)) (accounts : Vec NamedAccount Global)
    (read : List NamedAccount) (t : Tables) → found ≡ Some accounts → read ≡ accounts.items
    → AccountsByRow found t → map named_account_row read ≡ t Accounts
listed found accounts read t is same by_row =
    ap (map named_account_row) same
    ∙ subst (λ (f : Option (Vec NamedAccount Global)). AccountsByRow f t) is by_row

pub returns-in_default : goal.returns-in_default
returns-in_default g c =
    let given = c.args.given.now in
    let holidays : List ℕ = holidays_of c.args.holidays.now in
    record {
      call = reads_on (Err part.Accounts) (ChecksAccounts given holidays)
          c.in_ok-accounts.ensures.call
          (λ t read. none_read t given holidays
          (subst (λ (f : Option (Vec NamedAccount Global)). AccountsByRow f t) c.in_default.is
          read));
    }

pub returns-then-not-are_names : goal.returns-then-not-are_names
returns-then-not-are_names g c =
    let given = c.args.given.now in
    let holidays : List ℕ = holidays_of c.args.holidays.now in
    record {
      call = reads_on (Err part.Accounts) (ChecksAccounts given holidays)
          c.in_ok-accounts.ensures.call
          (λ t read. no_such_names t given holidays c.deref.result.now
          (listed c.in_ok-accounts.field-0 c.in-Some.accounts c.deref.result.now t c.in-Some.is
          c.deref.ensures.value read)
          (λ names. true≢false (sym (c.are_names.ensures.1 names) ∙ c.if-not-are_names.true)));
    }

pub loop-account-init : goal.loop-account-init
loop-account-init g c =
    let given = c.args.given.now in
    let holidays : List ℕ = holidays_of c.args.holidays.now in
    let accounts = c.as_slice-left.result.now in
    let same : c.deref.result.now ≡ accounts =
    c.deref.ensures.value ∙ sym c.as_slice-left.ensures.value in
    let names : AreNames accounts = subst AreNames same
    (c.are_names.ensures.0 c.if-not-are_names.false) in
    record {
      call = reads_on tt _ c.in_ok-accounts.ensures.call
          (λ t read. none_so_far t given holidays accounts
          (listed c.in_ok-accounts.field-0 c.in-Some.accounts accounts t c.in-Some.is
          c.as_slice-left.ensures.value read));
      names = names;
      left = names.each;
    }

pub returns-in_err-own : goal.returns-in_err-own
returns-in_err-own g c = record {
  call = fails_after (search rules) c.loop-account.invariant.call.frame
      c.in_err-own.ensures.call.frame;
}

pub returns-in_default-2 : goal.returns-in_default-2
returns-in_default-2 g c =
    let given = c.args.given.now in
    let holidays : List ℕ = holidays_of c.args.holidays.now in
    let account = c.in-Some-split_first.account.now in
    record {
      call = then_reads (Err c.in-Ok.part) (ChecksAccounts given holidays)
          c.loop-account.invariant.call c.in_ok-own.ensures.call
          (λ t so_far one. subst (λ (p : Part). ShowsBad given holidays p t) (sym c.in-Ok.ensures)
          (one_unsound t given holidays _ c.loop-account.left.now
          c.loop-account.sizes so_far account c.in-Some-split_first.later.now
          c.in-Some-split_first.ensures.cases.0
          (subst (λ (f : Option Sizes). ChecksAccount account given holidays f t)
          c.in_default-2.is one)));
    }

pub loop-account-preserved : goal.loop-account-preserved
loop-account-preserved g c =
    let given = c.args.given.now in
    let holidays : List ℕ = holidays_of c.args.holidays.now in
    let account = c.in-Some-split_first.account.now in
    let later = c.in-Some-split_first.later.now in
    let is = c.in-Some-split_first.ensures.cases.0 in
    let named : is_account_name (name_read account) ≡ true =
    c.loop-account.invariant.left account
    (subst (λ (ls : List NamedAccount). Has ls account) (sym is) (inl refl)) in
    record {
      call = then_reads tt _ c.loop-account.invariant.call c.in_ok-own.ensures.call
          (λ t so_far one. subst (SoFar t given holidays _ later) (sym c.plus-sizes.ensures)
          (one_more_sound t given holidays _ c.loop-account.left.now c.loop-account.sizes so_far
          account later is c.in-Some-2.own
          (subst (λ (f : Option Sizes). ChecksAccount account given holidays f t)
          c.in-Some-2.is one) named));
      names = c.loop-account.invariant.names;
      left = λ a has. c.loop-account.invariant.left a
          (subst (λ (ls : List NamedAccount). Has ls a) (sym is) (inr has));
    }

pub returns : goal.returns
returns g c =
    let given = c.args.given.now in
    let holidays : List ℕ = holidays_of c.args.holidays.now in
    record {
      call = reads_on (Ok c.loop-account.sizes) (ChecksAccounts given holidays)
          c.loop-account.invariant.call
          (λ t so_far. all_so_far t given holidays _ c.loop-account.left.now
          c.loop-account.sizes so_far
          (nil_from_length c.loop-account.left.now c.in_default-split_first.ensures.cases)
          c.loop-account.invariant.names);
    }
