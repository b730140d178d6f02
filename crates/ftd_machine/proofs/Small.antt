-- The sums of an account of a sound state are small.
use Rattle.std.proofs.Common.{◌≡◌, ◌∙◌, inl, inr, sym, ap, subst, ℕ, ◌≤◌, ◌<◌, ◌*◌, ◌&&◌, ◌||◌}
use Rattle.std.proofs.Common.{Bool, true, false, cond, List, [], ◌∷◌, filter, length, refl, arith}
use Rattle.std.specs.Prelude.{min, nat_lt}
use Rattle.std.specs.List.{sum_by}
use Rattle.std.proofs.lemmas.Bool.{leb-true, and_parts}
use Rattle.std.proofs.lemmas.List.{length-map}
use Rattle.std.proofs.lemmas.List.Sums.{sum_by-le, count_by-le-length, length-filter}
use Rattle.ftd_rules.specs.declared.TheConstants.{AMOUNTS_END}
use Rattle.ftd_machine.specs.declared.limits.TheConstants.{MOST_ENTRIES}
use Rattle.ftd_days.specs.declared.cents.Cents.{Cents}
use Rattle.ftd_rules.specs.declared.DaySum.{DaySum}
use Rattle.ftd_rules.specs.declared.Form.{Form}
use Rattle.ftd_rules.specs.declared.Form.TheVariants.{F941, F943}
use Rattle.ftd_rules.specs.declared.run.PayRun.{PayRun}
use Rattle.ftd_rules.specs.declared.run.Voidable.{Voidable}
use Rattle.ftd_rules.specs.declared.payment.Payment.{Payment}
use Rattle.ftd_rules.specs.Lists.{Has}
use Rattle.ftd_rules.specs.Liability.{liability, share}
use Rattle.ftd_rules.specs.Payments.{paid_by, counts_by}
use Rattle.ftd_rules.specs.Lookback.{Counts}
use Rattle.ftd_rules.proofs.Rising.{all_has}
use Rattle.ftd_rules.proofs.Members.{has_mapped}
use Rattle.ftd_machine.specs.Limits.{is_amount, are_amounts}
use Rattle.ftd_machine.specs.State.{State, Entry, entries_of, is_of, has_key, content_of, latest}
use Rattle.ftd_machine.specs.State.{all_at}
use Rattle.ftd_machine.specs.History.{form_of, figure_of, figures, quarter_figures, live, is_live}
use Rattle.ftd_machine.specs.History.{value_of, liability_of, live_sums, live_payments, HasLookback}
use Rattle.ftd_machine.specs.History.{IsLookbackOn}
use Rattle.ftd_machine.specs.Sound.{IsSound}
use Rattle.ftd_machine.proofs.Members.{has_filtered}

-- ---- amounts

amount_le : (cents : Cents) → is_amount cents ≡ true → cents.0 ≤ 99_999_999_999
amount_le cents e = leb-true cents.0 99_999_999_999 e

run_le : (run : PayRun) → are_amounts run ≡ true → (liability_of run).cents.0 ≤ 299_999_999_997
run_le run e =
    let rest = (and_parts (is_amount run.fit) (is_amount run.ss && is_amount run.medicare) e).1 in
    let fit = amount_le run.fit (and_parts (is_amount run.fit) _ e).0 in
    let ss = amount_le run.ss (and_parts (is_amount run.ss) _ rest).0 in
    let medicare = amount_le run.medicare (and_parts (is_amount run.ss) _ rest).1 in
    omega arith

if_le : (b : Bool) (n : ℕ) → cond b 0 n ≤ n
if_le true n = omega arith
if_le false n = omega arith

-- ---- sums of at most 20,000 amounts

few_small : {X : Type 0} (f : X → ℕ) (xs : List X) → length xs ≤ MOST_ENTRIES
    → ((x : X) → Has xs x → f x ≤ 299_999_999_997) → sum_by f xs < AMOUNTS_END
few_small f xs few each =
    let sum : sum_by f xs ≤ length xs * 299_999_999_997 =
    sum_by-le f 299_999_999_997 xs (all_has (λ x. f x ≤ 299_999_999_997) xs each) in
    omega arith

live_count : {X : Type 0} (entries : List (Entry (Voidable X)))
    → length (live entries) ≤ length entries
live_count entries =
    let mapped = length-map (filter is_live entries) value_of in
    let kept = length-filter is_live entries in
    let count = count_by-le-length is_live entries in
    omega arith

live_has : {X : Type 0} (entries : List (Entry (Voidable X))) (x : X) → Has (live entries) x
    → (e : Entry (Voidable X)) × Has entries e × (x ≡ e.content.value)
live_has entries x has =
    let from = has_mapped value_of (filter is_live entries) x has in
    (from.0, (has_filtered is_live entries from.0 from.1).0, from.2)

-- ---- of an account

module _ (s : State) (name : List ℕ) (sound : IsSound s) where
  pub liability_small : (first last : ℕ)
      → liability (live_sums (entries_of s name)) first last < AMOUNTS_END
  liability_small first last =
      let own = entries_of s name in
      let long = length-map (live own.runs) liability_of in
      let count = live_count own.runs in
      let few = (sound.counts name).0 in
      few_small (share first last) (live_sums own) (omega arith) (λ x has.
      (let run = has_mapped liability_of (live own.runs) x has in
      let e = live_has own.runs run.0 run.1 in
      let kept = has_filtered (is_of name) s.runs e.0 e.1 in
      let cents : x.cents.0 ≡ (liability_of e.0.content.value).cents.0 =
      ap (λ (d : DaySum). d.cents.0) run.2
      ∙ ap (λ (r : PayRun). (liability_of r).cents.0) e.2 in
      let most = run_le e.0.content.value (sound.run_amounts e.0 kept.0) in
      let part : share first last x ≤ x.cents.0 =
      if_le (nat_lt x.day first || nat_lt last x.day) x.cents.0 in
      omega arith))

  pub paid_small : (first last as_of day : ℕ)
      → paid_by (live_payments (entries_of s name)) first last as_of day < AMOUNTS_END
  paid_small first last as_of day =
      let own = entries_of s name in
      let by = min day as_of in
      let count = live_count own.payments in
      let few = (sound.counts name).1 in
      few_small (counts_by first last by) (live_payments own) (omega arith) (λ p has.
      (let e = live_has own.payments p has in
      let kept = has_filtered (is_of name) s.payments e.0 e.1 in
      let cents : p.cents.0 ≡ e.0.content.value.cents.0 =
      ap (λ (q : Payment). q.cents.0) e.2 in
      let most = amount_le e.0.content.value.cents (sound.paid_amounts e.0 kept.0) in
      let part : counts_by first last by p ≤ p.cents.0 =
      if_le (nat_lt p.for_day first || nat_lt last p.for_day || nat_lt by p.paid)
      p.cents.0 in
      omega arith))

  -- what is in force of amounts is an amount
  latest_small : (first : Cents) (later : List Cents) → first.0 ≤ 99_999_999_999
      → ((c : Cents) → Has later c → c.0 ≤ 99_999_999_999)
      → (latest first later).0 ≤ 99_999_999_999
  latest_small first [] low each = low
  latest_small first (c ∷ cs) low each =
      latest_small c cs (each c (inl refl)) (λ x has. each x (inr has))

  each_small : (entries : List (Entry Cents))
      → ((e : Entry Cents) → Has entries e → is_amount e.content ≡ true) → (key : ℕ) (cents : Cents)
      → Has (all_at key (filter (is_of name) entries)) cents → cents.0 ≤ 99_999_999_999
  each_small entries each key cents has =
      let from = has_mapped content_of (filter (has_key key) (filter (is_of name) entries)) cents
      has in
      let keyed = has_filtered (has_key key) (filter (is_of name) entries) from.0 from.1 in
      let kept = has_filtered (is_of name) entries from.0 keyed.0 in
      let most = amount_le from.0.content (each from.0 kept.0) in
      subst (λ (c : Cents). c.0 ≤ 99_999_999_999) (sym from.2) most

  counts_small : (entries corrected : List (Entry Cents))
      → ((e : Entry Cents) → Has entries e → is_amount e.content ≡ true)
      → ((e : Entry Cents) → Has corrected e → is_amount e.content ≡ true)
      → (key : ℕ) (cents : Cents)
      → Has (figures (filter (is_of name) entries) (filter (is_of name) corrected)) (key, cents)
      → cents.0 ≤ 99_999_999_999
  counts_small entries corrected each later key cents has =
      let own = filter (is_of name) corrected in
      let from = has_mapped (figure_of own) (filter (is_of name) entries) (key, cents) has in
      let kept = has_filtered (is_of name) entries from.0 from.1 in
      let is : cents ≡ latest from.0.content (all_at from.0.key own) =
      ap (λ (f : ℕ × Cents). f.1) from.2 in
      let most = amount_le from.0.content (each from.0 kept.0) in
      subst (λ (c : Cents). c.0 ≤ 99_999_999_999) (sym is)
      (latest_small from.0.content (all_at from.0.key own) most
      (λ c has. each_small corrected later from.0.key c has))

  quarter_small : (start quarter : ℕ) (cents : Cents)
      → Counts (quarter_figures (entries_of s name)) start quarter cents
      → cents.0 ≤ 99_999_999_999
  quarter_small start quarter cents (inl early) = let none = early.1 in omega arith
  quarter_small start quarter cents (inr late) =
      counts_small s.reported s.corrected sound.reported_amounts sound.corrected_amounts quarter
      cents late.1

  lookback_on : (form : Form) (year : ℕ) (total : Cents)
      → IsLookbackOn form (entries_of s name) year total → total.0 < AMOUNTS_END
  lookback_on F941 year total h =
      let a = quarter_small _ _ h.first h.count.0 in
      let b = quarter_small _ _ h.second h.count.1 in
      let c = quarter_small _ _ h.third h.count.2 in
      let d = quarter_small _ _ h.fourth h.count.3 in
      let sum = h.adds_up in
      omega arith
  lookback_on F943 year total (inl early) = let none = early.1 in omega arith
  lookback_on F943 year total (inr late) =
      let most = counts_small s.reported_years s.corrected_years sound.year_amounts
      sound.corrected_year_amounts _ total late.1 in omega arith

  pub lookback_small : (year : ℕ) (total : Cents) → HasLookback (entries_of s name) year total
      → total.0 < AMOUNTS_END
  lookback_small year total h = lookback_on (form_of (entries_of s name).account) year total h
