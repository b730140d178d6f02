-- What is kept of one account is sound by its plain values where it is as the machine has it, but
-- for the totals.
use Rattle.std.proofs.Common.{◌≡◌, ℕ, ◌≤◌, ◌==◌, true, List, map}
use Rattle.std.proofs.Common.{refl, sym, ap, subst, ◌∙◌}
use Rattle.std.specs.Prelude.{is_some, All}
use Rattle.std.proofs.lemmas.Bool.{eqb-true}
use Rattle.std.proofs.lemmas.List.{length-map}
use Rattle.ftd_days.specs.Calendar.{year_of}
use Rattle.ftd_rules.specs.Lists.{Has}
use Rattle.ftd_rules.specs.declared.run.PayRun.{PayRun}
use Rattle.ftd_rules.specs.declared.run.Voidable.{Voidable}
use Rattle.ftd_rules.specs.declared.payment.Payment.{Payment}
use Rattle.ftd_rules.proofs.Members.{mapped_has, has_mapped}
use Rattle.ftd_rules.proofs.Rising.{all_has, has_all}
use Rattle.ftd_machine.specs.declared.limits.TheConstants.{MOST_ENTRIES}
use Rattle.ftd_machine.specs.declared.entries.Account.{Account}
use Rattle.ftd_machine.specs.declared.entries.Beginning.{Beginning}
use Rattle.ftd_machine.specs.State.{Entry, has_key, content_of, kept_at, is_open}
use Rattle.ftd_machine.proofs.Members.{found_some, some_of}
use Rattle.ftd_machine.proofs.Found.{find_there}
use Rattle.ftd_machine.proofs.Keeping.{same_key}
use Rattle.ftd_sound.specs.declared.own.Own.{Own}
use Rattle.ftd_sound.specs.Entered.{entry_of, year_opened, entries_in}
use Rattle.ftd_sound.specs.Own.{key_of, StartsInTime, IsRunSound, AreRunsSound, IsPaymentSound}
use Rattle.ftd_sound.specs.Own.{ArePaymentsSound}
use Rattle.ftd_sound.specs.Private.Plain.{account_now, starts_in_range, AreStarts, IsRun}
use Rattle.ftd_sound.specs.Private.Plain.{AreRuns, IsPayment, ArePayments}
use Rattle.ftd_sound.proofs.Apart.{distinct_mapped}

-- ---- members

-- each of the mapped ones meets a fact where each meets it as mapped
pub mapped_all : {X Y : Type 0} (f : X → Y) (P : Y → Type 0) (xs : List X)
    → ((y : Y) → Has (map f xs) y → P y) → All (λ (x : X). P (f x)) xs
mapped_all {X = X} f P xs h =
    all_has (λ (x : X). P (f x)) xs (λ x has. h (f x) (mapped_has f xs x has))

pub all_mapped : {X Y : Type 0} (f : X → Y) (P : Y → Type 0) (xs : List X)
    → All (λ (x : X). P (f x)) xs → (y : Y) → Has (map f xs) y → P y
all_mapped {X = X} f P xs all y has =
    let from = has_mapped f xs y has in
    subst P (sym from.2) (has_all (λ (x : X). P (f x)) xs all from.0 from.1)

-- something is kept under the key where one of those mapped has it
pub kept_mapped : {A X : Type 0} (f : A → Entry X) (xs : List A) (key : ℕ)
    → is_some (kept_at key (map f xs)) ≡ true → (a : A) × Has xs a × (key ≡ (f a).key)
kept_mapped f xs key is =
    let kept = some_of (kept_at key (map f xs)) is in
    let found = found_some content_of (has_key key) (map f xs) kept.0 kept.1 in
    let from = has_mapped f xs found.0 found.1 in
    let keyed : found.0.key ≡ key = eqb-true found.0.key key found.2 in
    (from.0, from.1, sym keyed ∙ ap (λ (e : Entry _). e.key) from.2)

pub mapped_kept : {A X : Type 0} (f : A → Entry X) (xs : List A) (key : ℕ) (a : A) → Has xs a
    → key ≡ (f a).key → is_some (kept_at key (map f xs)) ≡ true
mapped_kept f xs key a has is =
    find_there content_of (has_key key) (map f xs) (f a) (mapped_has f xs a has)
    (ap (λ k. k == key) (sym is) ∙ same_key key)

-- the year of an account is open where it is one of the open years
pub open_is : (name : List ℕ) (own : Own) (year : ℕ) → is_open (entries_in name own) year ≡ true
    → Has own.open_years.items year
open_is name own year is =
    let from = kept_mapped (year_opened name) own.open_years.items year is in
    subst (Has own.open_years.items) (sym from.2) from.1

pub is_opened : (name : List ℕ) (own : Own) (year : ℕ) → Has own.open_years.items year
    → is_open (entries_in name own) year ≡ true
is_opened name own year has =
    mapped_kept (year_opened name) own.open_years.items year year has refl

-- ---- the first days

pub starts_plain : (name : List ℕ) (own : Own) → StartsInTime (entries_in name own) → AreStarts own
starts_plain name own h = record {
  enrolled = h.enrolled own.account refl;
  moves = all_has (λ (b : Beginning). starts_in_range b.start ≡ true) own.moves.items h.moves;
  move_counts = h.move_counts;
}

pub starts_named : (name : List ℕ) (own : Own) → AreStarts own → StartsInTime (entries_in name own)
starts_named name own h = record {
  enrolled = λ account is.
      let its : own.account ≡ account = cc in
      subst (λ (a : Account). starts_in_range a.start ≡ true) its h.enrolled;
  moves = has_all (λ (b : Beginning). starts_in_range b.start ≡ true) own.moves.items h.moves;
  move_counts = h.move_counts;
}

-- ---- runs

run_plain : (name : List ℕ) (own : Own) (e : ℕ × Voidable PayRun)
    → IsRunSound (entries_in name own) (entry_of name e)
    → IsRun (account_now own) own.open_years.items e
run_plain name own e h = record {
  number = h.number;
  amounts = h.amounts;
  payday = open_is name own (year_of e.1.value.payday) h.payday;
  since = h.since;
}

run_named : (name : List ℕ) (own : Own) (e : ℕ × Voidable PayRun)
    → IsRun (account_now own) own.open_years.items e
    → IsRunSound (entries_in name own) (entry_of name e)
run_named name own e h = record {
  number = h.number;
  amounts = h.amounts;
  payday = is_opened name own (year_of e.1.value.payday) h.payday;
  since = h.since;
}

pub runs_plain : (name : List ℕ) (own : Own) → AreRunsSound (entries_in name own)
    → AreRuns (account_now own) own.open_years.items own.runs.items
runs_plain name own h = record {
  once = (distinct_mapped (entry_of name) key_of own.runs.items).0 h.once;
  count = subst (λ n. n ≤ MOST_ENTRIES) (length-map own.runs.items (entry_of name)) h.count;
  each = all_has (λ (e : ℕ × Voidable PayRun). IsRun (account_now own) own.open_years.items e)
      own.runs.items
      (λ e has. run_plain name own e (h.each (entry_of name e)
      (mapped_has (entry_of name) own.runs.items e has)));
}

pub runs_named : (name : List ℕ) (own : Own)
    → AreRuns (account_now own) own.open_years.items own.runs.items
    → AreRunsSound (entries_in name own)
runs_named name own h = record {
  once = (distinct_mapped (entry_of name) key_of own.runs.items).1 h.once;
  count = subst (λ n. n ≤ MOST_ENTRIES) (sym (length-map own.runs.items (entry_of name))) h.count;
  each = all_mapped (entry_of name)
      (λ (e : Entry (Voidable PayRun)). IsRunSound (entries_in name own) e)
      own.runs.items (all_has
      (λ (e : ℕ × Voidable PayRun). IsRunSound (entries_in name own) (entry_of name e))
      own.runs.items
      (λ e has. run_named name own e (has_all
      (λ (e : ℕ × Voidable PayRun). IsRun (account_now own) own.open_years.items e)
      own.runs.items h.each e has)));
}

-- ---- payments

payment_plain : (name : List ℕ) (own : Own) (e : ℕ × Voidable Payment)
    → IsPaymentSound (entries_in name own) (entry_of name e)
    → IsPayment (account_now own) own.open_years.items e
payment_plain name own e h = record {
  number = h.number;
  amount = h.amount;
  something = h.something;
  paid_in = h.paid_in;
  for_day = open_is name own (year_of e.1.value.for_day) h.for_day;
  since = h.since;
}

payment_named : (name : List ℕ) (own : Own) (e : ℕ × Voidable Payment)
    → IsPayment (account_now own) own.open_years.items e
    → IsPaymentSound (entries_in name own) (entry_of name e)
payment_named name own e h = record {
  number = h.number;
  amount = h.amount;
  something = h.something;
  paid_in = h.paid_in;
  for_day = is_opened name own (year_of e.1.value.for_day) h.for_day;
  since = h.since;
}

pub payments_plain : (name : List ℕ) (own : Own) → ArePaymentsSound (entries_in name own)
    → ArePayments (account_now own) own.open_years.items own.payments.items
payments_plain name own h = record {
  once = (distinct_mapped (entry_of name) key_of own.payments.items).0 h.once;
  count = subst (λ n. n ≤ MOST_ENTRIES) (length-map own.payments.items (entry_of name)) h.count;
  each = all_has (λ (e : ℕ × Voidable Payment). IsPayment (account_now own) own.open_years.items e)
      own.payments.items
      (λ e has. payment_plain name own e (h.each (entry_of name e)
      (mapped_has (entry_of name) own.payments.items e has)));
}

pub payments_named : (name : List ℕ) (own : Own)
    → ArePayments (account_now own) own.open_years.items own.payments.items
    → ArePaymentsSound (entries_in name own)
payments_named name own h = record {
  once = (distinct_mapped (entry_of name) key_of own.payments.items).1 h.once;
  count = subst (λ n. n ≤ MOST_ENTRIES) (sym (length-map own.payments.items (entry_of name)))
      h.count;
  each = all_mapped (entry_of name)
      (λ (e : Entry (Voidable Payment)). IsPaymentSound (entries_in name own) e)
      own.payments.items (all_has
      (λ (e : ℕ × Voidable Payment). IsPaymentSound (entries_in name own) (entry_of name e))
      own.payments.items
      (λ e has. payment_named name own e (has_all
      (λ (e : ℕ × Voidable Payment). IsPayment (account_now own) own.open_years.items e)
      own.payments.items h.each e has)));
}
