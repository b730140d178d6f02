-- A due list exists, wherever the account has lines.
use Rattle.std.proofs.Common.{◌≡◌, ◌∙◌, ◌⊎◌, inl, inr, refl, sym, ap, subst, ℕ, ◌+◌, ◌-◌, ◌%◌, ◌≤◌}
use Rattle.std.proofs.Common.{◌<◌, Bool, true, false, List, [], ◌∷◌, arith, Option, None, Some}
use Rattle.std.proofs.Common.{rules}
use Rattle.std.specs.Prelude.{◌↔◌, min, IsTrue, IsSomeAnd}
use Rattle.std.proofs.lemmas.Bool.{true≢false, false≢true, cases_Bool, cases_lt}
use Rattle.std.proofs.lemmas.Bool.Decides.{eqb_tells}
use Rattle.ftd_days.specs.Calendar.{quarter_of}
use Rattle.ftd_days.specs.Business.{IsOnOrAfter}
use Rattle.ftd_days.specs.declared.cents.Cents.{Cents}
use Rattle.ftd_days.proofs.Business.{some_business, on_or_after_one}
use Rattle.ftd_rules.specs.declared.Form.{Form}
use Rattle.ftd_rules.specs.declared.Rule.{Rule}
use Rattle.ftd_rules.specs.declared.Rule.TheVariants as rule
use Rattle.ftd_rules.specs.declared.YearLine.{YearLine}
use Rattle.ftd_rules.specs.declared.Obligation.{Obligation}
use Rattle.ftd_rules.specs.declared.verdict.Case.{Case}
use Rattle.ftd_rules.specs.declared.verdict.DueRow.{DueRow}
use Rattle.ftd_rules.specs.declared.verdict.Verdict.{Verdict}
use Rattle.ftd_rules.specs.declared.verdict.Verdict.TheVariants.{Met, WithReturn, Open, MadeUp}
use Rattle.ftd_rules.specs.declared.verdict.Verdict.TheVariants.{Short, Late}
use Rattle.ftd_rules.specs.Lists.{Has, KeysRise}
use Rattle.ftd_rules.specs.Due.{fifteenth_after}
use Rattle.ftd_rules.specs.Obligations.{ByFirstDay}
use Rattle.ftd_rules.specs.Returns.{IsWednesdayOrFriday}
use Rattle.ftd_days.specs.Calendar.{IsFirstFrom}
use Rattle.ftd_rules.specs.Returns.{month_after_ends, IsFirstWednesdayOrFriday, IsEarlierMakeup}
use Rattle.ftd_rules.specs.Returns.{IsMakeup}
use Rattle.ftd_rules.specs.Verdicts.{IsTolerable, IsCase, place_of, IsVerdict}
use Rattle.ftd_machine.specs.State.{Entries}
use Rattle.ftd_machine.specs.History.{form_of, AreLinesOf}
use Rattle.ftd_machine.specs.Checks.{Answer}
use Rattle.ftd_machine.specs.Asking.{return_period, return_total, has_next_day, preceding, IsSmall}
use Rattle.ftd_machine.specs.Asking.{IsReturnPaid, paid_for_return, paid_for, IsCaseOf, IsDueRow}
use Rattle.ftd_machine.specs.Asking.{first_of_row, IsDueList}
use Rattle.ftd_machine.specs.Told.{due_answer}
use Rattle.ftd_machine.proofs.Lined.{owed_some}
use Rattle.ftd_machine.proofs.Counting.{neither}

abbrev pub Or : Type 0 → Type 0
Or P = P ⊎ (P → ⊥)

truth : {P : Type 0} → Or P → (b : Bool) × (IsTrue b ↔ P)
truth (inl p) = (true, ((λ h. p), (λ h. refl)))
truth (inr n) = (false, ((λ h. absurd (false≢true h)), (λ p. absurd (n p))))

pub le_or : (a b : ℕ) → Or (a ≤ b)
le_or a b = elim (cases_lt b a) [ inl less ↦ inr (λ h. omega arith) | inr is ↦ inl is ]

pub both_or : {P Q : Type 0} → Or P → Or Q → Or (P × Q)
both_or (inl p) (inl q) = inl (p, q)
both_or (inl p) (inr n) = inr (λ h. n h.1)
both_or (inr n) q = inr (λ h. n h.0)

either_or : {P Q : Type 0} → Or P → Or Q → Or (P ⊎ Q)
either_or (inl p) q = inl (inl p)
either_or (inr n) (inl q) = inl (inr q)
either_or (inr n) (inr m) = inr (λ h. elim h [ inl p ↦ n p | inr q ↦ m q ])

true_or : (b : Bool) → Or (IsTrue b)
true_or true = inl refl
true_or false = inr (λ h. false≢true h)

-- ---- makeup dates

first_day : (P : ℕ → Type 0) (from day : ℕ) → from ≤ day → P day
    → ((e : ℕ) → from ≤ e → e < day → P e → ⊥) → (w : ℕ) × IsFirstFrom P from w
first_day P from day not_before holds first =
    (day, record { not_before = not_before; holds = holds; first = first })

pub week_some : (day : ℕ) → (w : ℕ) × IsFirstWednesdayOrFriday day w
week_some day = elim (cases_lt (day % 7) 3) [
  | inl early ↦ first_day IsWednesdayOrFriday day (day + (2 - day % 7)) (omega arith)
      (inl (omega arith))
      (λ e l m h. elim h [ inl wednesday ↦ omega arith | inr friday ↦ omega arith ])
  | inr late ↦ elim (cases_lt (day % 7) 5) [
    | inl middle ↦ first_day IsWednesdayOrFriday day (day + (4 - day % 7)) (omega arith)
        (inr (omega arith))
        (λ e l m h. elim h [ inl wednesday ↦ omega arith | inr friday ↦ omega arith ])
    | inr end ↦ first_day IsWednesdayOrFriday day (day + (9 - day % 7)) (omega arith)
        (inl (omega arith))
        (λ e l m h. elim h [ inl wednesday ↦ omega arith | inr friday ↦ omega arith ])
  ]
]

pub week_one : (day a b : ℕ) → IsFirstWednesdayOrFriday day a → IsFirstWednesdayOrFriday day b
    → a ≡ b
week_one day a b g h = neither a b (λ l. h.first a g.not_before l g.holds)
    (λ l. g.first b h.not_before l h.holds)

pub earlier_some : (form : Form) (holidays : List ℕ) (last due : ℕ)
    → (makeup : ℕ) × IsEarlierMakeup form holidays last due makeup
earlier_some form holidays last due =
    let r = some_business holidays (month_after_ends form (quarter_of last)) in
    let w = week_some (fifteenth_after due) in
    let m = some_business holidays (min r.0 w.0) in (
      m.0,
      search rules,
    )

pub earlier_one : (form : Form) (holidays : List ℕ) (last due a b : ℕ)
    → IsEarlierMakeup form holidays last due a → IsEarlierMakeup form holidays last due b → a ≡ b
earlier_one form holidays last due a b g h =
    let r : g.return_due ≡ h.return_due =
    on_or_after_one holidays _ g.return_due h.return_due g.is_return h.is_return in
    let w : g.weekday ≡ h.weekday = week_one _ g.weekday h.weekday g.is_weekday h.is_weekday in
    let from : min g.return_due g.weekday ≡ min h.return_due h.weekday = rw (r, w) refl in
    on_or_after_one holidays (min h.return_due h.weekday) a b
    (subst (λ d. IsOnOrAfter holidays d a) from g.rolled) h.rolled

pub makeup_some : (form : Form) (holidays : List ℕ) (r : Rule) (last due : ℕ)
    → (makeup : ℕ) × IsMakeup form holidays r last due makeup
makeup_some form holidays rule.Monthly last due =
    some_business holidays (month_after_ends form (quarter_of last))
makeup_some form holidays rule.Semiweekly last due = earlier_some form holidays last due
makeup_some form holidays rule.NextDay last due = earlier_some form holidays last due

pub makeup_one : (form : Form) (holidays : List ℕ) (r : Rule) (last due a b : ℕ)
    → IsMakeup form holidays r last due a → IsMakeup form holidays r last due b → a ≡ b
makeup_one form holidays rule.Monthly last due a b g h = on_or_after_one holidays _ a b g h
makeup_one form holidays rule.Semiweekly last due a b g h =
    earlier_one form holidays last due a b g h
makeup_one form holidays rule.NextDay last due a b g h = earlier_one form holidays last due a b g h

-- ---- verdicts

tolerable_or : (c : Case) → Or (IsTolerable c)
tolerable_or c = either_or (le_or _ _) (le_or _ _)

case_or : (v : Verdict) (c : Case) → Or (IsCase v c)
case_or Met c = le_or _ _
case_or WithReturn c = both_or (true_or c.small) (either_or (le_or _ _) (true_or c.quarter_paid))
case_or Open c = le_or _ _
case_or MadeUp c = both_or (tolerable_or c) (le_or _ _)
case_or Short c = both_or (tolerable_or c) (le_or _ _)
case_or Late c = inl tt

pub place_one : (a b : Verdict) → place_of a ≡ place_of b → a ≡ b
place_one Met Met e = refl
place_one WithReturn WithReturn e = refl
place_one Open Open e = refl
place_one MadeUp MadeUp e = refl
place_one Short Short e = refl
place_one Late Late e = refl
place_one a b e = absurd (omega arith)

-- the case of no verdict before this place holds
abbrev NoneBefore : Case → ℕ → Type 0
NoneBefore c place = (o : Verdict) → place_of o < place → IsCase o c → ⊥

pub nor_this : (c : Case) (v : Verdict) → NoneBefore c (place_of v) → (IsCase v c → ⊥)
    → NoneBefore c (place_of v + 1)
nor_this c v none not o before holds = elim (cases_lt (place_of o) (place_of v)) [
  | inl earlier ↦ none o earlier holds
  | inr here ↦ not (subst (λ w. IsCase w c) (place_one o v (omega arith)) holds)
]

-- the case of the verdict holds, or that of a later one
verdict_from : (c : Case) (v : Verdict) → NoneBefore c (place_of v)
    → (NoneBefore c (place_of v + 1) → (w : Verdict) × IsVerdict c w)
    → (w : Verdict) × IsVerdict c w
verdict_from c v none later = elim (case_or v c) [
  | inl is ↦ (v, record { holds = is; first = none })
  | inr not ↦ later (nor_this c v none not)
]

pub verdict_some : (c : Case) → (v : Verdict) × IsVerdict c v
verdict_some c =
    verdict_from c Met before_met (λ before_return.
    verdict_from c WithReturn before_return (λ before_open.
    verdict_from c Open before_open (λ before_made_up.
    verdict_from c MadeUp before_made_up (λ before_short.
    verdict_from c Short before_short (λ before_late.
    (Late, record { holds = tt; first = before_late }))))))
  where
    before_met : NoneBefore c (place_of Met)
    before_met o before holds = absurd (omega arith)

pub verdict_one : (c : Case) (a b : Verdict) → IsVerdict c a → IsVerdict c b → a ≡ b
verdict_one c a b g h = place_one a b (neither (place_of a) (place_of b)
    (λ l. h.first a l g.holds) (λ l. g.first b l h.holds))

-- two truth values of one fact
truth_one : {P : Type 0} (a b : Bool) → (IsTrue a ↔ P) → (IsTrue b ↔ P) → a ≡ b
truth_one true true g h = refl
truth_one false false g h = refl
truth_one true false g h = absurd (false≢true (h.1 (g.0 refl)))
truth_one false true g h = absurd (false≢true (g.1 (h.0 refl)))

-- ---- small return periods

small_or : (own : Entries) (rows : List Obligation) (quarter : ℕ) → Or (IsSmall own rows quarter)
small_or own rows quarter =
    let form = form_of own.account in
    let n = return_period form quarter in
    let total : Cents = record { 0 = return_total own n } in
    elim (cases_Bool (has_next_day form rows n)) [
      | inl next ↦ inr (λ h. true≢false (sym next ∙ h.2.0))
      | inr none ↦ elim (le_or (return_total own n + 1) 250_000) [
        | inl small ↦ inl (total, refl, (none, inl (omega arith)))
        | inr large ↦ elim (reported_or (preceding form own quarter)) [
          | inl small ↦ inl (total, refl, (none, inr small))
          | inr not ↦ inr (λ h. elim h.2.1 [
            | inl less ↦ large (let e = h.1 in omega arith)
            | inr small ↦ not small
          ])
        ]
      ]
    ]
  where
    reported_or : (o : Option Cents) → Or (IsSomeAnd o (λ c. c.0 < 250_000))
    reported_or None = inr (λ h. h)
    reported_or (Some c) = elim (cases_lt c.0 250_000) [
      | inl less ↦ inl less
      | inr not ↦ inr (λ h. omega arith)
    ]

-- ---- rows

case_some : (holidays : List ℕ) (own : Entries) (rows : List Obligation) (quarter as_of : ℕ)
    (row : DueRow)
    → (c : Case) × IsCaseOf holidays own rows quarter as_of row c
case_some holidays own rows quarter as_of row =
    let r = some_business holidays (month_after_ends (form_of own.account) quarter) in
    let small = truth (small_or own rows quarter) in
    let paid = truth (le_or (return_total own (return_period (form_of own.account) quarter))
    (paid_for_return own (return_period (form_of own.account) quarter) r.0)) in (
      record {
        cents = row.obligation.cents;
        due = row.obligation.due;
        makeup = row.makeup;
        return_due = r.0;
        as_of = as_of;
        paid_due = record { 0 = paid_for own row.obligation as_of row.obligation.due };
        paid_makeup = record { 0 = paid_for own row.obligation as_of row.makeup };
        small = small.0;
        quarter_paid = paid.0;
      },
      record {
        cents = refl;
        due = refl;
        makeup = refl;
        return_due = r.1;
        as_of_is = refl;
        paid_due = refl;
        paid_makeup = refl;
        small = small.1;
        quarter_paid = paid.1;
      },
    )

pub row_some : (holidays : List ℕ) (own : Entries) (rows : List Obligation) (quarter as_of : ℕ)
    (o : Obligation)
    → Has rows o → quarter_of o.first ≡ quarter
    → (row : DueRow) × (row.obligation ≡ o) × IsDueRow holidays own rows quarter as_of row
row_some holidays own rows quarter as_of o has begins =
    let m = makeup_some (form_of own.account) holidays o.rule o.last o.due in
    let paid : Cents = record { 0 = paid_for own o as_of as_of } in
    let draft : DueRow = record { obligation = o; makeup = m.0; paid = paid; verdict = Met } in
    let c = case_some holidays own rows quarter as_of draft in
    let v = verdict_some c.0 in (
      record { obligation = o; makeup = m.0; paid = paid; verdict = v.0 },
      refl,
      record {
        owed = has;
        begins = begins;
        makeup = m.1;
        paid = refl;
        of_case = c.0;
        is_case = record {
          cents = c.1.cents;
          due = c.1.due;
          makeup = c.1.makeup;
          return_due = c.1.return_due;
          as_of_is = c.1.as_of_is;
          paid_due = c.1.paid_due;
          paid_makeup = c.1.paid_makeup;
          small = c.1.small;
          quarter_paid = c.1.quarter_paid;
        };
        verdict = v.1;
      },
    )

pub like : (a b : Cents) → a.0 ≡ b.0 → a ≡ b
like a b e = ap (λ n. record { 0 = n }) e

case_one : (holidays : List ℕ) (own : Entries) (rows : List Obligation) (quarter as_of : ℕ)
    (r s : DueRow) (c d : Case)
    → r.obligation ≡ s.obligation → r.makeup ≡ s.makeup
    → IsCaseOf holidays own rows quarter as_of r c → IsCaseOf holidays own rows quarter as_of s d
    → c ≡ d
case_one holidays own rows quarter as_of r s c d o m g h =
    let cents : c.cents ≡ d.cents = g.cents ∙ ap (λ (x : Obligation). x.cents) o ∙ sym h.cents in
    let due : c.due ≡ d.due = g.due ∙ ap (λ (x : Obligation). x.due) o ∙ sym h.due in
    let makeup : c.makeup ≡ d.makeup = g.makeup ∙ m ∙ sym h.makeup in
    let returned : c.return_due ≡ d.return_due =
    on_or_after_one holidays _ c.return_due d.return_due g.return_due h.return_due in
    let asked : c.as_of ≡ d.as_of = g.as_of_is ∙ sym h.as_of_is in
    let paid : c.paid_due ≡ d.paid_due = like c.paid_due d.paid_due (g.paid_due
    ∙ ap (λ (x : Obligation). paid_for own x as_of c.due) o
    ∙ ap (λ t. paid_for own s.obligation as_of t) due ∙ sym h.paid_due) in
    let made : c.paid_makeup ≡ d.paid_makeup = like c.paid_makeup d.paid_makeup (g.paid_makeup
    ∙ ap (λ (x : Obligation). paid_for own x as_of c.makeup) o
    ∙ ap (λ t. paid_for own s.obligation as_of t) makeup ∙ sym h.paid_makeup) in
    let small : c.small ≡ d.small = truth_one c.small d.small g.small h.small in
    let there : IsTrue c.quarter_paid ↔ IsReturnPaid own quarter d.return_due =
    subst (λ t. IsTrue c.quarter_paid ↔ IsReturnPaid own quarter t) returned g.quarter_paid in
    let all : c.quarter_paid ≡ d.quarter_paid =
    truth_one c.quarter_paid d.quarter_paid there h.quarter_paid in
    rw (cents, due, makeup, returned, asked, paid, made, small, all) refl

pub row_one : (holidays : List ℕ) (own : Entries) (rows : List Obligation) (quarter as_of : ℕ)
    (r s : DueRow)
    → r.obligation ≡ s.obligation → IsDueRow holidays own rows quarter as_of r
    → IsDueRow holidays own rows quarter as_of s → r ≡ s
row_one holidays own rows quarter as_of r s o g h =
    let there : IsMakeup (form_of own.account) holidays s.obligation.rule s.obligation.last
    s.obligation.due r.makeup =
    subst (λ (x : Obligation). IsMakeup (form_of own.account) holidays x.rule x.last x.due
    r.makeup) o g.makeup in
    let makeup : r.makeup ≡ s.makeup = makeup_one
    (form_of own.account) holidays s.obligation.rule s.obligation.last s.obligation.due
    r.makeup s.makeup there h.makeup in
    let paid : r.paid ≡ s.paid = like r.paid s.paid
    (g.paid ∙ ap (λ (x : Obligation). paid_for own x as_of as_of) o ∙ sym h.paid) in
    let c : g.of_case ≡ h.of_case =
    case_one holidays own rows quarter as_of r s g.of_case h.of_case o makeup g.is_case
    h.is_case in
    let verdict : r.verdict ≡ s.verdict = verdict_one h.of_case r.verdict s.verdict
    (subst (λ x. IsVerdict x r.verdict) c g.verdict) h.verdict in
    rw (o, makeup, paid, verdict) refl

-- the rows of some of the obligations
rows_some : (holidays : List ℕ) (own : Entries) (rows some : List Obligation) (quarter as_of : ℕ)
    → ((o : Obligation) → Has some o → Has rows o) → ByFirstDay some
    → (listed : List DueRow) × KeysRise first_of_row listed
    × ((row : DueRow) → Has listed row ↔ (Has some row.obligation
    × IsDueRow holidays own rows quarter as_of row))
rows_some holidays own rows [] quarter as_of sub rise =
    ([], tt, λ row. ((λ h. absurd h), (λ h. absurd h.0)))
rows_some holidays own rows (o ∷ some) quarter as_of sub rise =
    let rest = rows_some holidays own rows some quarter as_of (λ p h. sub p (inr h)) rise.1 in
    elim (eqb_tells (quarter_of o.first) quarter) [
      | inr apart ↦ (
        rest.0,
        rest.1,
        λ row. (
          (λ h. (let k = (rest.2 row).0 h in (inr k.0, k.1))),
          (λ h. elim h.0 [
            | inl is ↦ absurd (apart.1 (ap (λ (p : Obligation). quarter_of p.first) (sym is)
                ∙ h.1.begins))
            | inr has ↦ (rest.2 row).1 (has, h.1)
          ]),
        ),
      )
      | inl here ↦
          let row = row_some holidays own rows quarter as_of o (sub o (inl refl)) here.1 in (
            row.0 ∷ rest.0,
            (
              (λ later h. (let k = ((rest.2 later).0 h).0 in let l = rise.0 later.obligation k in
                  let f : row.0.obligation.first ≡ o.first =
                  ap (λ (p : Obligation). p.first) row.1 in omega arith)),
              rest.1,
            ),
            λ r. (
              (λ h. elim h [
                | inl is ↦ (
                  inl (ap (λ (x : DueRow). x.obligation) is ∙ row.1),
                  subst (IsDueRow holidays own rows quarter as_of) (sym is) row.2,
                )
                | inr has ↦ (let k = (rest.2 r).0 has in (inr k.0, k.1))
              ]),
              (λ h. elim h.0 [
                | inl is ↦ inl (row_one holidays own rows quarter as_of r row.0
                    (is ∙ sym row.1) h.1 row.2)
                | inr has ↦ inr ((rest.2 r).1 (has, h.1))
              ]),
            ),
          )
    ]

pub due_list_some : (holidays : List ℕ) (own : Entries) (name : List ℕ) (lines : List YearLine)
    (quarter as_of : ℕ)
    → AreLinesOf own lines → (answer : Answer) × IsDueList holidays own name quarter as_of answer
due_list_some holidays own name lines quarter as_of h =
    let rows = owed_some holidays own lines h in
    let listed = rows_some holidays own rows.0 rows.0 quarter as_of
    (λ o k. k) rows.1.2.by_first_day in (
      due_answer name quarter as_of listed.0,
      record {
        rows = _;
        owed = rows.1;
        listed = _;
        by_first_day = listed.1;
        all = λ row. ((λ k. ((listed.2 row).0 k).1), (λ k. (listed.2 row).1 (k.owed, k)));
        told = refl;
      },
    )
