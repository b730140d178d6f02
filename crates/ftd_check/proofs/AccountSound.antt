-- What is found of an account is all that may be found.
use Rattle.std.proofs.Common.{◌≡◌, ◌∙◌, ◌+◌, ◌<◌, ◌≤◌, ℕ, inl, inr, sym, ap, subst, arith}
use Rattle.std.proofs.Common.{List, [], ◌∷◌, map, Option, Some}
use Rattle.std.proofs.Common.{None, IfNone, IfSome, IfOk, Result, Ok, Err}
use Rattle.std.specs.List.Sorted.{IsPermutation, IsNonDecreasingBy}
use Rattle.std.proofs.lemmas.List.Sorted.{IsPermutation-trans, IsPermutation-sym}
use Rattle.ftd_days.specs.declared.cents.Cents.{Cents}
use Rattle.ftd_rules.specs.declared.Assessment.{Assessment}
use Rattle.ftd_rules.specs.declared.Obligation.{Obligation}
use Rattle.ftd_rules.specs.declared.YearLine.{YearLine}
use Rattle.ftd_rules.specs.Lists.{Has, KeysRise}
use Rattle.ftd_rules.specs.Lookback.{AreReportedOnce}
use Rattle.ftd_rules.specs.Obligations.{AreObligations}
use Rattle.ftd_rules.specs.Years.{YearsFrom}
use Rattle.ftd_rules.proofs.Members.{has_mapped}
use Rattle.ftd_rules.proofs.Only.{obligations_one}
use Rattle.ftd_rules.proofs.Rising.{sorted_is, next_do_not_fall}
use Rattle.ftd_rules.proofs.Stated.{rows_owed}
use Rattle.ftd_store.specs.declared.year_cells.StoredYear.{StoredYear}
use Rattle.ftd_machine.specs.State.{Entry, Entries, latest, all_at}
use Rattle.ftd_machine.specs.History.{figures, figure_of, form_of, live_sums, AreLinesOf}
use Rattle.ftd_machine.specs.History.{year_of_line}
use Rattle.ftd_machine.specs.Sound.{AreDistinct}
use Rattle.ftd_machine.proofs.Single.{IsOnce, lines_of_one}
use Rattle.ftd_sound.specs.Entered.{entries_in}
use Rattle.ftd_sound.specs.Own.{IsOwnSound, AreOnce, key_of}
use Rattle.ftd_sound.specs.declared.own.Own.{Own}
use Rattle.ftd_check.specs.Account.{IsSoundOwn, stored_of}
use Rattle.ftd_check.specs.declared.own_rows.OwnRows.{OwnRows}

-- ---- totals are kept once

same_key : {X K : Type 0} (key : X → K) (xs : List X) → AreDistinct key xs → (x y : X)
    → Has xs x → Has xs y → key x ≡ key y → x ≡ y
same_key key [] once x y a b same = absurd a
same_key key (z ∷ zs) once x y (inl a) (inl b) same = a ∙ sym b
same_key key (z ∷ zs) once x y (inl a) (inr b) same =
    absurd (once.0 y b (sym same ∙ ap key a))
same_key key (z ∷ zs) once x y (inr a) (inl b) same = absurd (once.0 x a (same ∙ ap key b))
same_key key (z ∷ zs) once x y (inr a) (inr b) same = same_key key zs once.1 x y a b same

reported_once : (xs corrected : List (Entry Cents)) → AreOnce xs
    → AreReportedOnce (figures xs corrected)
reported_once xs corrected once quarter figure other h k =
    let a = has_mapped (figure_of corrected) xs (quarter, figure) h in
    let b = has_mapped (figure_of corrected) xs (quarter, other) k in
    let keys : a.0.key ≡ b.0.key = sym (ap (λ (p : ℕ × Cents). p.0) a.2)
    ∙ ap (λ (p : ℕ × Cents). p.0) b.2 in
    let same : a.0 ≡ b.0 = same_key key_of xs once a.0 b.0 a.1 b.1 keys in
    ap (λ (p : ℕ × Cents). p.1) a.2
    ∙ ap (λ (e : Entry Cents). latest e.content (all_at e.key corrected)) same
    ∙ sym (ap (λ (p : ℕ × Cents). p.1) b.2)

own_once : (given : List ℕ) (own : Entries) → IsOwnSound given own → IsOnce own
own_once given own sound = record {
  quarters = λ corrected. reported_once own.reported corrected sound.quarters.once;
  years = λ corrected. reported_once own.reported_years corrected sound.years.once;
}

-- ---- lines rise by year

from_year : (year : ℕ) (lines : List YearLine) → YearsFrom year lines → (line : YearLine)
    → Has lines line → year ≤ line.year
from_year year [] from line has = absurd has
from_year year (l ∷ ls) from line (inl is) =
    let here : line.year ≡ l.year = ap year_of_line is in
    let first = from.0 in
    omega arith
from_year year (l ∷ ls) from line (inr has) =
    let rest = from_year (year + 1) ls from.1 line has in omega arith

years_rise : (year : ℕ) (lines : List YearLine) → YearsFrom year lines
    → KeysRise year_of_line lines
years_rise year [] from = tt
years_rise year (l ∷ ls) from = (
  (λ line has. let rest = from_year (year + 1) ls from.1 line has in let first = from.0 in
      omega arith),
  years_rise (year + 1) ls from.1,
)

pub lines_rise : (own : Entries) (lines : List YearLine) → AreLinesOf own lines
    → KeysRise year_of_line lines
lines_rise own lines are =
    let years = are.schedules.years in
    years_rise years.0 lines years.2

stored_rise : (lines : List YearLine) → KeysRise year_of_line lines
    → KeysRise (λ (y : StoredYear). y.year) (map stored_of lines)
stored_rise [] rise = tt
stored_rise (l ∷ ls) rise = (
  (λ later has.
      let from = has_mapped stored_of ls later has in
      subst (λ (y : StoredYear). l.year < y.year) (sym from.2) (rise.0 from.0 from.1)),
  stored_rise ls rise.1,
)

-- ---- stored years in some order

abbrev pub year_stored : StoredYear → ℕ
year_stored y = y.year

module _ (stored sorted : List StoredYear) (lines : List YearLine)
    (moved : IsPermutation stored sorted) where
  pub lines_are : sorted ≡ map stored_of lines → IsPermutation stored (map stored_of lines)
  lines_are same = subst (λ (ys : List StoredYear). IsPermutation stored ys) same moved

  pub are_lines : KeysRise year_of_line lines → IsNonDecreasingBy year_stored sorted
      → IsPermutation stored (map stored_of lines) → sorted ≡ map stored_of lines
  are_lines rise order are =
      sorted_is year_stored (map stored_of lines) sorted (stored_rise lines rise)
      (next_do_not_fall year_stored sorted (λ k d more. order k (k + 1) d (omega arith) more))
      (IsPermutation-trans (map stored_of lines) stored sorted
      (IsPermutation-sym stored (map stored_of lines) are) moved)

-- ---- what is found

module _ (name given holidays : List ℕ) (rows : OwnRows) (lines : List YearLine)
    (owed : List Obligation) (are : AreLinesOf (entries_in name rows.own) lines)
    (are_owed : AreObligations (form_of (entries_in name rows.own).account) lines
    (live_sums (entries_in name rows.own)) holidays owed) where
  abbrev own : Entries
  own = entries_in name rows.own

  same_lines : (is : IsSoundOwn name given holidays rows) → is.lines ≡ lines
  same_lines is = lines_of_one own is.lines lines (own_once given own is.sound) is.are_lines are

  same_owed : (is : IsSoundOwn name given holidays rows) → is.owed ≡ owed
  same_owed is =
      let there : AreObligations (form_of own.account) lines (live_sums own) holidays is.owed =
      subst (λ (ls : List YearLine). AreObligations (form_of own.account) ls (live_sums own)
      holidays is.owed) (same_lines is) is.are_owed in
      obligations_one (form_of own.account) lines (live_sums own) holidays is.owed owed
      (rows_owed (form_of own.account) lines (live_sums own) holidays is.owed there)
      (rows_owed (form_of own.account) lines (live_sums own) holidays owed are_owed)

  pub lines_too : IsSoundOwn name given holidays rows
      → IsPermutation rows.years.items (map stored_of lines)
  lines_too is = subst (λ (ls : List YearLine). IsPermutation rows.years.items (map stored_of ls))
      (same_lines is) is.stored_lines

  pub owed_too : IsSoundOwn name given holidays rows → IsPermutation rows.obligations.items owed
  owed_too is = subst (λ (os : List Obligation). IsPermutation rows.obligations.items os)
      (same_owed is) is.stored_owed

-- ---- what is found, where something is

pub found_lines : (own : Own) (found : Option Assessment) (a : Assessment) → found ≡ Some a
    → IfSome found (λ f. (name : List ℕ) → AreLinesOf (entries_in name own) f.years)
    → (name : List ℕ) → AreLinesOf (entries_in name own) a.years
found_lines own found a is =
    subst (λ f. IfSome f (λ (b : Assessment). (name : List ℕ)
    → AreLinesOf (entries_in name own) b.years)) is

pub found_sound : (given : List ℕ) (own : Own) (found : Option Assessment) (a : Assessment)
    → found ≡ Some a → IfSome found (λ f. (name : List ℕ) → IsOwnSound given (entries_in name own))
    → (name : List ℕ) → IsOwnSound given (entries_in name own)
found_sound given own found a is =
    subst (λ f. IfSome f (λ (b : Assessment). (name : List ℕ)
    → IsOwnSound given (entries_in name own))) is

pub found_owed : (holidays : List ℕ) (own : Own) (found : Option Assessment) (a : Assessment)
    → found ≡ Some a → IfSome found (λ f. (name : List ℕ)
    → AreObligations (form_of (entries_in name own).account) f.years
    (live_sums (entries_in name own)) holidays f.rows)
    → (name : List ℕ) → AreObligations (form_of (entries_in name own).account) a.years
    (live_sums (entries_in name own)) holidays a.rows
found_owed holidays own found a is =
    subst (λ f. IfSome f (λ (b : Assessment). (name : List ℕ)
    → AreObligations (form_of (entries_in name own).account) b.years
    (live_sums (entries_in name own)) holidays b.rows)) is

-- where a call answers, what follows of its answer
pub if_ok : {A E : Type 0} (P Q : A → Type 0) (r : Result A E) → ((x : A) → P x → Q x) → IfOk r P
    → IfOk r Q
if_ok P Q (Ok x) more is = more x is
if_ok P Q (Err e) more is = tt

pub none_sound : (given : List ℕ) (own : Own) (found : Option Assessment) → found ≡ None
    → IfNone found ((name : List ℕ) → IsOwnSound given (entries_in name own) → ⊥)
    → (name : List ℕ) → IsOwnSound given (entries_in name own) → ⊥
none_sound given own found is =
    subst (λ (f : Option Assessment). IfNone f ((name : List ℕ)
    → IsOwnSound given (entries_in name own) → ⊥)) is
