-- What is kept is told one answer.
use Rattle.std.proofs.Common.{◌≡◌, ◌∙◌, ◌⊎◌, inl, inr, sym, ap, subst, ℕ, ◌<◌, ◌≤◌, List, arith}
use Rattle.std.proofs.Common.{Option, None, Some, refl}
use Rattle.std.specs.Prelude.{◌↔◌, map, [], ◌∷◌}
use Rattle.std.proofs.lemmas.Option.{same_Some}
use Rattle.ftd_rules.specs.declared.Obligation.{Obligation}
use Rattle.ftd_rules.specs.declared.YearLine.{YearLine}
use Rattle.ftd_rules.specs.Lists.{Has}
use Rattle.ftd_machine.specs.State.{State, Entries, Entry, entries_of, holidays, kept_at}
use Rattle.ftd_rules.specs.declared.payment.Payment.{Payment}
use Rattle.ftd_rules.specs.declared.run.PayRun.{PayRun}
use Rattle.ftd_rules.specs.declared.run.Voidable.{Voidable}
use Rattle.ftd_machine.specs.Checks.{Answer}
use Rattle.ftd_machine.specs.Agenda.{EachToLater}
use Rattle.ftd_machine.specs.Told.{kept_answer}
use Rattle.ftd_machine.specs.Kept.{IsAccountBefore, AreAccounts, AreYears, IsTotalBefore}
use Rattle.ftd_machine.specs.Kept.{AreTotals, IsDayBefore, AreHolidays, IsRunBefore, AreRuns}
use Rattle.ftd_machine.specs.Kept.{as_first_reported, line_of, kept_days}
use Rattle.ftd_machine.specs.History.{form_of, HasLookback}
use Rattle.ftd_machine.specs.Kept.{IsEnrolled, IsRunIn, IsHeldBy, IsPaymentIn, IsPaymentBefore}
use Rattle.ftd_machine.specs.Kept.{ArePayments, TellsKept}
use Rattle.ftd_machine.specs.declared.kept.KeptAccount.{KeptAccount}
use Rattle.ftd_machine.specs.declared.kept.KeptPayment.{KeptPayment}
use Rattle.ftd_machine.specs.declared.kept.KeptRun.{KeptRun}
use Rattle.ftd_machine.specs.declared.kept.KeptYear.{KeptYear}
use Rattle.ftd_machine.specs.declared.kept.KeptRows.TheVariants as rows
use Rattle.ftd_machine.specs.declared.requests.KeptList.{KeptList}
use Rattle.ftd_machine.specs.declared.requests.KeptList.TheVariants.{Accounts, Years, Reported}
use Rattle.ftd_machine.specs.declared.requests.KeptList.TheVariants.{Holidays, Runs, Payments}
use Rattle.ftd_machine.proofs.Single.{IsOnce, lookback_one, lines_of_one, owed_one}
use Rattle.ftd_machine.proofs.Ordered.{ordered_one}
use Rattle.ftd_machine.proofs.AgendaOrder.{names_once, three}

-- lists in one order that have the same members
pub listed_one : {X : Type 0} (R : X → X → Type 0) → ((x y : X) → R x y → R y x → ⊥)
    → (P : X → Type 0) (xs ys : List X) → EachToLater R xs → EachToLater R ys
    → ((x : X) → Has xs x ↔ P x) → ((x : X) → Has ys x ↔ P x) → xs ≡ ys
listed_one R not_both P xs ys g h are also = ordered_one R not_both xs ys g h
    (λ x has. (also x).1 ((are x).0 has)) (λ x has. (are x).1 ((also x).0 has))

-- ---- an order by two numbers

module _ {X : Type 0} (first second : X → ℕ) where
  abbrev pub IsByTwo : X → X → Type 0
  IsByTwo a b = (first a < first b) ⊎ ((first a ≡ first b) × (second a < second b))

  pub two_once : (x y : X) → IsByTwo x y → IsByTwo y x → ⊥
  two_once x y (inl g) (inl h) = omega arith
  two_once x y (inl g) (inr h) = let e = h.0 in omega arith
  two_once x y (inr g) (inl h) = let e = g.0 in omega arith
  two_once x y (inr g) (inr h) = let a = g.1 in let b = h.1 in omega arith

  pub two_then : (x y z : X) → IsByTwo x y → IsByTwo y z → IsByTwo x z
  two_then x y z (inl g) (inl h) = inl (omega arith)
  two_then x y z (inl g) (inr h) = let e = h.0 in inl (omega arith)
  two_then x y z (inr g) (inl h) = let e = g.0 in inl (omega arith)
  two_then x y z (inr g) (inr h) =
      let a = g.1 in let b = h.1 in
      let less : second x < second z = omega arith in inr (g.0 ∙ h.0, less)

  pub two_total : (x y : X) → (second x ≡ second y → x ≡ y)
      → IsByTwo x y ⊎ ((x ≡ y) ⊎ IsByTwo y x)
  two_total x y one = elim (three (first x) (first y)) [
    | inl less ↦ inl (inl less)
    | inr not ↦ elim not [
      | inr more ↦ inr (inr (inl more))
      | inl same ↦ elim (three (second x) (second y)) [
        | inl less ↦ inl (inr (same, less))
        | inr rest ↦ elim rest [
          | inr more ↦ inr (inr (inr (sym same, more)))
          | inl equal ↦ inr (inl (one equal))
        ]
      ]
    ]
  ]

abbrev pub payday_of : KeptRun → ℕ
payday_of x = x.run.payday

abbrev pub run_number : KeptRun → ℕ
run_number x = x.number

abbrev pub day_paid_for : KeptPayment → ℕ
day_paid_for x = x.payment.for_day

abbrev pub payment_number : KeptPayment → ℕ
payment_number x = x.number

-- ---- the obligation that holds a day

not_less : (a b : ℕ) → a ≤ b → b ≤ a → a ≡ b
not_less a b g h = omega arith

pub held_one : (owed : List Obligation) (day : ℕ) (a b : Option ℕ) → IsHeldBy owed day a
    → IsHeldBy owed day b → a ≡ b
held_one owed day None None g h = refl
held_one owed day None (Some b) g h = absurd (g h.0 h.1 h.2)
held_one owed day (Some a) None g h = absurd (h g.0 g.1 g.2)
held_one owed day (Some a) (Some b) g h =
    let low : a ≤ b = subst (λ n. a ≤ n) h.3 (g.4 h.0 h.1 h.2) in
    let high : b ≤ a = subst (λ n. b ≤ n) g.3 (h.4 g.0 g.1 g.2) in
    ap Some (not_less a b low high)

-- ---- rows of one key

pub account_one : (s : State) (x y : KeptAccount) → x.name ≡ y.name → IsEnrolled s x
    → IsEnrolled s y → x ≡ y
account_one s x y named g h =
    let account : x.account ≡ y.account = same_Some x.account y.account
    (sym g ∙ subst (λ n. (entries_of s n).account ≡ Some y.account) (sym named) h) in
    rw (named, account) refl

same_kept : {V : Type 0} (entries : List (Entry V)) (number other : ℕ) (v w : V)
    → kept_at number entries ≡ Some v → kept_at other entries ≡ Some w → number ≡ other → v ≡ w
same_kept entries number other v w g h same =
    same_Some v w (sym g ∙ subst (λ k. kept_at k entries ≡ Some w) (sym same) h)

pub run_one : (own : Entries) (quarter : ℕ) (x y : KeptRun) → IsRunIn own quarter x
    → IsRunIn own quarter y → x.number ≡ y.number → x ≡ y
run_one own quarter x y g h same =
    let kept = same_kept own.runs x.number y.number _ _ g.0 h.0 same in
    let run : x.run ≡ y.run = ap (λ (v : Voidable PayRun). v.value) kept in
    let voided : x.voided ≡ y.voided = ap (λ (v : Voidable PayRun). v.voided) kept in
    rw (same, run, voided) refl

pub payment_one : (owed : List Obligation) (own : Entries) (quarter : ℕ) (x y : KeptPayment)
    → IsPaymentIn owed own quarter x → IsPaymentIn owed own quarter y → x.number ≡ y.number → x ≡ y
payment_one owed own quarter x y g h same =
    let kept = same_kept own.payments x.number y.number _ _ g.0 h.0 same in
    let payment : x.payment ≡ y.payment = ap (λ (v : Voidable Payment). v.value) kept in
    let voided : x.voided ≡ y.voided = ap (λ (v : Voidable Payment). v.voided) kept in
    let day : y.payment.for_day ≡ x.payment.for_day =
    ap (λ (p : Payment). p.for_day) (sym payment) in
    let obligation : x.obligation ≡ y.obligation =
    held_one owed x.payment.for_day x.obligation y.obligation g.2
    (subst (λ d. IsHeldBy owed d y.obligation) day h.2) in
    rw (same, payment, voided, obligation) refl

-- open years with the same lines, each with its lookback total by what was first reported
kept_years_one : (own : Entries) (xs ys : List KeptYear) → IsOnce own
    → map line_of xs ≡ map line_of ys
    → ((x : KeptYear) → Has xs x → HasLookback own x.line.year x.first_lookback)
    → ((y : KeptYear) → Has ys y → HasLookback own y.line.year y.first_lookback) → xs ≡ ys
kept_years_one own [] [] once same f g = refl
kept_years_one own [] (y ∷ ys) once same f g = absurd cc
kept_years_one own (x ∷ xs) [] once same f g = absurd cc
kept_years_one own (x ∷ xs) (y ∷ ys) once same f g =
    let line : x.line ≡ y.line = cc in
    let lines : map line_of xs ≡ map line_of ys = cc in
    let there : HasLookback own x.line.year y.first_lookback =
    subst (λ (l : YearLine). HasLookback own l.year y.first_lookback) (sym line) (g y (inl refl)) in
    let amount : x.first_lookback.0 ≡ y.first_lookback.0 =
    lookback_one (form_of own.account) own x.line.year x.first_lookback y.first_lookback once
    (f x (inl refl)) there in
    let rest : xs ≡ ys = kept_years_one own xs ys once lines (λ z has. f z (inr has))
    (λ z has. g z (inr has)) in
    rw (line, amount, rest) refl

-- ---- answers

accounts_one : (s : State) (a b : Answer) → AreAccounts s a → AreAccounts s b → a ≡ b
accounts_one s a b g h =
    g.told ∙ ap (λ xs. kept_answer (rows.Accounts xs))
    (listed_one IsAccountBefore (λ x y. names_once x.name y.name) _ g.listed h.listed g.by_name
    h.by_name g.all h.all) ∙ sym h.told

years_one : (own : Entries) (name : List ℕ) (a b : Answer) → IsOnce own → AreYears own name a
    → AreYears own name b → a ≡ b
years_one own name a b once g h =
    let lines : map line_of g.listed ≡ map line_of h.listed =
    lines_of_one own (map line_of g.listed) (map line_of h.listed) once g.are_lines h.are_lines in
    g.told ∙ ap (λ xs. kept_answer (rows.Years name xs))
    (kept_years_one (as_first_reported own) g.listed h.listed
    (record { quarters = once.quarters; years = once.years }) lines g.first_lookbacks
    h.first_lookbacks) ∙ sym h.told

totals_one : (own : Entries) (name : List ℕ) (a b : Answer) → AreTotals own name a
    → AreTotals own name b → a ≡ b
totals_one own name a b g h =
    g.told ∙ ap (λ xs. kept_answer (rows.Reported name xs))
    (listed_one IsTotalBefore (λ x y k l. omega arith) _ g.listed h.listed g.by_period h.by_period
    g.all h.all) ∙ sym h.told

holidays_one : (s : State) (year : ℕ) (a b : Answer) → AreHolidays s year a → AreHolidays s year b
    → a ≡ b
holidays_one s year a b g h =
    let given : g.given ≡ h.given = same_Some g.given h.given (sym g.is_given ∙ h.is_given) in
    let added : g.added ≡ h.added = listed_one IsDayBefore (λ x y k l. omega arith) _ g.added
    h.added g.rising h.rising g.all h.all in
    g.told ∙ (ap (λ xs. kept_answer (rows.Holidays year (kept_days s xs g.added))) given
    ∙ (ap (λ xs. kept_answer (rows.Holidays year (kept_days s h.given xs))) added ∙ sym h.told))

runs_one : (own : Entries) (name : List ℕ) (quarter : ℕ) (a b : Answer)
    → AreRuns own name quarter a → AreRuns own name quarter b → a ≡ b
runs_one own name quarter a b g h =
    g.told ∙ ap (λ xs. kept_answer (rows.Runs name quarter xs))
    (listed_one IsRunBefore (two_once payday_of run_number) _ g.listed h.listed g.in_order
    h.in_order g.all h.all) ∙ sym h.told

payments_one : (hs : List ℕ) (own : Entries) (name : List ℕ) (quarter : ℕ) (a b : Answer)
    → IsOnce own
    → ArePayments hs own name quarter a → ArePayments hs own name quarter b → a ≡ b
payments_one hs own name quarter a b once g h =
    let owed : h.owed ≡ g.owed = owed_one hs own h.owed g.owed once h.are_owed g.are_owed in
    let also : (x : KeptPayment) → Has h.listed x ↔ IsPaymentIn g.owed own quarter x =
    subst (λ os. (x : KeptPayment) → Has h.listed x ↔ IsPaymentIn os own quarter x) owed h.all in
    g.told ∙ ap (λ xs. kept_answer (rows.Payments name quarter xs))
    (listed_one IsPaymentBefore (two_once day_paid_for payment_number) _ g.listed h.listed
    g.in_order h.in_order g.all also) ∙ sym h.told

pub kept_one : (s : State) (kept : KeptList) (a b : Answer)
    → ((name : List ℕ) → IsOnce (entries_of s name))
    → TellsKept s kept a → TellsKept s kept b → a ≡ b
kept_one s Accounts a b once g h = accounts_one s a b g h
kept_one s (Years name) a b once g h = years_one (entries_of s name) name a b (once name) g h
kept_one s (Reported name) a b once g h = totals_one (entries_of s name) name a b g h
kept_one s (Holidays year) a b once g h = holidays_one s year a b g h
kept_one s (Runs name quarter) a b once g h = runs_one (entries_of s name) name quarter a b g h
kept_one s (Payments name quarter) a b once g h =
    payments_one (holidays s) (entries_of s name) name quarter a b (once name) g h
