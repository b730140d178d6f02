-- A worked case: what is due over all accounts, and what of it is owed. Four accounts on Form 941,
-- monthly schedule depositors since 1 January 2024, have liability on Friday 5 January, which is
-- due on Thursday 15 February: `ash` of 882.50, the others of 10,000.00 each. On that day `elm`
-- paid 9,800.00, `fir` all, and `oak` 9,799.99. So `ash` may pay with the return for the quarter,
-- whose total is below 2,500.00; the shortfall of `elm` is 2%, 200.00, and is to be made up by the
-- due date of the return, Tuesday 30 April; that of `oak` is a cent more, and late. A day is the
-- number of days after 1 January 1900, a quarter that of quarters after the first of 1900, an
-- amount its cents.
use Rattle.std.proofs.Common.{◌≡◌, ◌∙◌, ◌↔◌, inl, inr, refl, sym, ap, subst, ℕ, ◌+◌, ◌<◌, ◌≤◌}
use Rattle.std.proofs.Common.{arith, Bool, false, true, List, [], ◌∷◌, Some, IsTrue}
use Rattle.std.specs.Prelude.{codes, min}
use Rattle.std.proofs.lemmas.Bool.{false≢true, leb-true, le-ltb}
use Rattle.ftd_days.specs.Calendar.{month_of, month_from, month_start}
use Rattle.ftd_rules.specs.declared.Form.TheVariants.{F941}
use Rattle.ftd_rules.specs.declared.Kind.TheVariants as kind
use Rattle.ftd_rules.specs.declared.Obligation.{Obligation}
use Rattle.ftd_rules.specs.declared.YearLine.{YearLine}
use Rattle.ftd_rules.specs.declared.payment.Payment.{Payment}
use Rattle.ftd_rules.specs.declared.run.PayRun.{PayRun}
use Rattle.ftd_rules.specs.declared.run.Voidable.{Voidable}
use Rattle.ftd_rules.specs.declared.verdict.Case.{Case}
use Rattle.ftd_rules.specs.declared.verdict.Verdict.{Verdict}
use Rattle.ftd_rules.specs.declared.verdict.Verdict.TheVariants.{Met, WithReturn, Open, MadeUp}
use Rattle.ftd_rules.specs.declared.verdict.Verdict.TheVariants.{Short, Late}
use Rattle.ftd_rules.specs.Lists.{Has}
use Rattle.ftd_rules.specs.Stops.{next_day_amount}
use Rattle.ftd_rules.specs.Verdicts.{place_of, IsCase, IsVerdict}
use Rattle.ftd_machine.specs.State.{State, Enrolled, Entry, Entries, nothing, entries_of, holidays}
use Rattle.ftd_machine.specs.History.{HasLookback, AreLinesOf, AreOwed}
use Rattle.ftd_machine.specs.Asking.{IsDueRow, IsSmall, IsReturnPaid, paid_for}
use Rattle.ftd_machine.specs.Agenda.{due_date_of, left_of, IsAgendaRow, IsPayBy, ComesBefore}
use Rattle.ftd_machine.specs.Step.{Step}
use Rattle.ftd_machine.specs.Told.{agenda_answer, owed_answer}
use Rattle.ftd_machine.specs.declared.entries.Account.{Account}
use Rattle.ftd_machine.specs.declared.lists.AgendaRow.{AgendaRow}
use Rattle.ftd_machine.specs.declared.requests.Question.TheVariants as question
use Rattle.ftd_machine.specs.declared.requests.Request.TheVariants as request
use Rattle.ftd_machine.proofs.AgendaOrder.{agenda_row_one}
use Rattle.ftd_machine.proofs.Single.{IsOnce, owed_one}
use Rattle.ftd_cases.proofs.January.{cents, closed_days, lookback_of_nothing, year_2024}
use Rattle.ftd_cases.proofs.January.{return_of_the_quarter, due_by_the_15th, monthly_lines}
use Rattle.ftd_cases.proofs.January.{on_5_january, few_on_5_january, january, january_owed}
use Rattle.ftd_cases.proofs.Listing.{each, only, in_order}
use Rattle.ftd_cases.proofs.Named.{enrolled_under}

-- ---- what is kept

abbrev ash : List ℕ
ash = codes "ash"

abbrev elm : List ℕ
elm = codes "elm"

abbrev fir : List ℕ
fir = codes "fir"

abbrev oak : List ℕ
oak = codes "oak"

abbrev since_january : Account
since_january = record { start = 45_290; carried = false; form = F941 }

abbrev enrolled : List ℕ → Enrolled
enrolled name = record { name = name; account = since_january }

abbrev opened : List ℕ → Entry (Unit {0})
opened name = record { name = name; key = 2024; content = tt }

-- income tax of 5 January, and no other tax
abbrev posted : List ℕ → ℕ → Entry (Voidable PayRun)
posted name amount =
    let run : PayRun =
    record { payday = 45_294; fit = cents amount; ss = cents 0; medicare = cents 0 } in
    record { name = name; key = 1; content = record { value = run; voided = false } }

-- paid on 15 February for 5 January
abbrev paid : List ℕ → ℕ → Entry (Voidable Payment)
paid name amount =
    let payment : Payment = record { paid = 45_335; for_day = 45_294; cents = cents amount } in
    record { name = name; key = 1; content = record { value = payment; voided = false } }

abbrev kept : State
kept = record nothing {
  accounts = enrolled oak ∷ enrolled ash ∷ enrolled fir ∷ enrolled elm ∷ [];
  calendars = record { year = 2024; days = closed_days } ∷ record { year = 2025; days = [] } ∷ [];
  open_years = opened oak ∷ opened ash ∷ opened fir ∷ opened elm ∷ [];
  runs = posted oak 1_000_000 ∷ posted ash 88_250 ∷ posted fir 1_000_000 ∷ posted elm 1_000_000
      ∷ [];
  payments = paid oak 979_999 ∷ paid fir 1_000_000 ∷ paid elm 980_000 ∷ [];
}

-- ---- one account

abbrev own_of : List ℕ → ℕ → List (Entry (Voidable Payment)) → Entries
own_of name amount payments = record {
  enrolled = Some since_january;
  moves = [];
  account = Some since_january;
  reported = [];
  reported_years = [];
  open_years = opened name ∷ [];
  runs = posted name amount ∷ [];
  payments = payments;
  corrected = [];
  corrected_years = [];
}

abbrev year : YearLine
year = year_2024 0 false kind.Monthly

module _ (name : List ℕ) (amount : ℕ) (payments : List (Entry (Voidable Payment))) where
  are_lines : amount + 0 + 0 < next_day_amount
      → AreLinesOf (own_of name amount payments) (year ∷ [])
  are_lines few = record {
    years = refl;
    lookbacks = only
        (λ (l : YearLine). HasLookback (own_of name amount payments) l.year l.lookback) year
        lookback_of_nothing;
    carried = (refl, tt);
    schedules = monthly_lines 0 (omega arith) (on_5_january (amount + 0 + 0) ∷ [])
        (few_on_5_january (amount + 0 + 0) few);
  }

  owed_of : 0 < amount + 0 + 0 → amount + 0 + 0 < next_day_amount
      → AreOwed closed_days (own_of name amount payments) (january 45_335 (amount + 0 + 0) ∷ [])
  owed_of some few = (
    year ∷ [],
    are_lines few,
    january_owed closed_days 45_335 (amount + 0 + 0) some few 0 (omega arith) due_by_the_15th,
  )

  -- what the verdict depends on, where all that was paid was paid by the due date
  abbrev case_of : ℕ → ℕ → Bool → Bool → Case
  case_of as_of deposited small quarter_paid = record {
    cents = cents amount;
    due = 45_335;
    makeup = 45_410;
    return_due = 45_410;
    as_of = as_of;
    paid_due = cents deposited;
    paid_makeup = cents deposited;
    small = small;
    quarter_paid = quarter_paid;
  }

  due_row : (as_of deposited : ℕ) (small quarter_paid : Bool) (verdict : Verdict)
      → paid_for (own_of name amount payments) (january 45_335 amount) as_of 45_335 ≡ deposited
      → paid_for (own_of name amount payments) (january 45_335 amount) as_of 45_410 ≡ deposited
      → paid_for (own_of name amount payments) (january 45_335 amount) as_of as_of ≡ deposited
      → IsTrue small ↔ IsSmall (own_of name amount payments) (january 45_335 amount ∷ []) 496
      → IsTrue quarter_paid ↔ IsReturnPaid (own_of name amount payments) 496 45_410
      → IsVerdict (case_of as_of deposited small quarter_paid) verdict
      → IsDueRow closed_days (own_of name amount payments) (january 45_335 amount ∷ []) 496 as_of
      (record {
        obligation = january 45_335 amount;
        makeup = 45_410;
        paid = cents deposited;
        verdict = verdict;
      })
  unfolding month_of month_from month_start
  due_row as_of deposited small on_return verdict by_due by_makeup now is_small paid is = record {
    owed = inl refl;
    begins = refl;
    makeup = return_of_the_quarter;
    paid = sym now;
    of_case = case_of as_of deposited small on_return;
    is_case = record {
      cents = refl;
      due = refl;
      makeup = refl;
      return_due = return_of_the_quarter;
      as_of_is = refl;
      paid_due = sym by_due;
      paid_makeup = sym by_makeup;
      small = is_small;
      quarter_paid = paid;
    };
    verdict = is;
  }

-- ---- the rows

abbrev row_of : List ℕ → ℕ → ℕ → Verdict → ℕ → AgendaRow
row_of name amount deposited verdict pay_by = record {
  account = name;
  form = F941;
  row = record {
    obligation = january 45_335 amount;
    makeup = 45_410;
    paid = cents deposited;
    verdict = verdict;
  };
  pay_by = pay_by;
}

abbrev ash_row : ℕ → AgendaRow
ash_row pay_by = row_of ash 88_250 0 WithReturn pay_by

abbrev elm_row : AgendaRow
elm_row = row_of elm 1_000_000 980_000 Short 45_410

abbrev fir_row : AgendaRow
fir_row = row_of fir 1_000_000 1_000_000 Met 45_335

abbrev oak_row : AgendaRow
oak_row = row_of oak 1_000_000 979_999 Late 45_335

-- ---- what was paid

-- all that was paid on 15 February counts from that day on
paid_whole : (name : List ℕ) (amount deposited as_of day : ℕ) → 45_335 ≤ as_of → 45_335 ≤ day
    → paid_for (own_of name amount (paid name deposited ∷ [])) (january 45_335 amount) as_of day
    ≡ deposited
paid_whole name amount deposited as_of day known on =
    let by : 45_335 ≤ min day as_of = omega arith in
    rw (le-ltb (min day as_of) 45_335 by) (omega arith)

-- 10,000.00 is no total of a small quarter, and no quarter before is reported
not_small : (name : List ℕ) (payments : List (Entry (Voidable Payment)))
    → IsTrue false
    ↔ IsSmall (own_of name 1_000_000 payments) (january 45_335 1_000_000 ∷ []) 496
unfolding month_of month_from month_start
not_small name payments = (
  (λ h. absurd (false≢true h)),
  (λ h. absurd (elim h.2.1 [
    | inl less ↦ (let total : h.0.0 ≡ 1_000_000 = h.1 in omega arith)
    | inr none ↦ none
  ])),
)

ash_small : IsTrue true ↔ IsSmall (own_of ash 88_250 []) (january 45_335 88_250 ∷ []) 496
unfolding month_of month_from month_start
ash_small = ((λ h. (cents 88_250, refl, (refl, inl (omega arith)))), (λ h. refl))

-- the return of the quarter is not paid, or is
not_paid : (name : List ℕ) (deposited : ℕ) → deposited < 1_000_000
    → IsTrue false
    ↔ IsReturnPaid (own_of name 1_000_000 (paid name deposited ∷ [])) 496 45_410
unfolding month_of month_from month_start
not_paid name deposited less = (
  (λ h. absurd (false≢true h)),
  (λ reached. absurd (let more : 1_000_000 ≤ 0 + deposited = reached in omega arith)),
)

ash_not_paid : IsTrue false ↔ IsReturnPaid (own_of ash 88_250 []) 496 45_410
unfolding month_of month_from month_start
ash_not_paid = (
  (λ h. absurd (false≢true h)),
  (λ reached. absurd (let more : 88_250 ≤ 0 = reached in omega arith)),
)

fir_paid : IsTrue true
    ↔ IsReturnPaid (own_of fir 1_000_000 (paid fir 1_000_000 ∷ [])) 496 45_410
unfolding month_of month_from month_start
fir_paid = ((λ h. leb-true 1_000_000 1_000_000 refl), (λ reached. refl))

-- ---- the verdicts, as of a day after 15 February and not after 30 April

module _ (as_of : ℕ) (over : 45_335 < as_of) (in_time : as_of ≤ 45_410) where
  with_return : IsVerdict (case_of ash 88_250 [] as_of 0 true false) WithReturn
  with_return = record { holds = (refl, inl in_time); first = earlier }
    where
      earlier : (other : Verdict) → place_of other < 1
          → IsCase other (case_of ash 88_250 [] as_of 0 true false) → ⊥
      earlier Met less is = omega arith
      earlier WithReturn less is = omega arith
      earlier Open less is = omega arith
      earlier MadeUp less is = omega arith
      earlier Short less is = omega arith
      earlier Late less is = omega arith

  met : IsVerdict
      (case_of fir 1_000_000 (paid fir 1_000_000 ∷ []) as_of 1_000_000 false true) Met
  met = record { holds = omega arith; first = λ other less is. omega arith }

  -- a shortfall of 2% is tolerated
  short : IsVerdict (case_of elm 1_000_000 (paid elm 980_000 ∷ []) as_of 980_000 false false) Short
  short = record { holds = (inr (omega arith), in_time); first = earlier }
    where
      earlier : (other : Verdict) → place_of other < 4
          → IsCase other (case_of elm 1_000_000 (paid elm 980_000 ∷ []) as_of 980_000 false false)
          → ⊥
      earlier Met less is = omega arith
      earlier WithReturn less is = false≢true is.0
      earlier Open less is = omega arith
      earlier MadeUp less is = let up = is.1 in omega arith
      earlier Short less is = omega arith
      earlier Late less is = omega arith

  -- and a cent more is not
  late : IsVerdict (case_of oak 1_000_000 (paid oak 979_999 ∷ []) as_of 979_999 false false) Late
  late = record { holds = tt; first = earlier }
    where
      earlier : (other : Verdict) → place_of other < 5
          → IsCase other (case_of oak 1_000_000 (paid oak 979_999 ∷ []) as_of 979_999 false false)
          → ⊥
      earlier Met less is = omega arith
      earlier WithReturn less is = false≢true is.0
      earlier Open less is = omega arith
      earlier MadeUp less is = let up = is.1 in omega arith
      earlier Short less is = elim is.0 [ inl hundred ↦ omega arith | inr percent ↦ omega arith ]
      earlier Late less is = omega arith

  -- ---- the rows of the four accounts

  is_ash_row : (pay_by : ℕ) → IsPayBy closed_days as_of (ash_row pay_by)
      → IsAgendaRow kept as_of (ash_row pay_by)
  unfolding month_of month_from month_start
  is_ash_row pay_by by = record {
    account = since_january;
    enrolled = refl;
    form_is = refl;
    owed = january 45_335 88_250 ∷ [];
    are_owed = owed_of ash 88_250 [] (omega arith) (omega arith);
    is_row = due_row ash 88_250 [] as_of 0 true false WithReturn refl refl refl ash_small
        ash_not_paid with_return;
    pay_by = by;
  }

  -- one that was paid on 15 February
  paid_row : (name : List ℕ) (deposited : ℕ) (small quarter_paid : Bool) (verdict : Verdict)
      → IsTrue small
      ↔ IsSmall (own_of name 1_000_000 (paid name deposited ∷ []))
      (january 45_335 1_000_000 ∷ []) 496
      → IsTrue quarter_paid
      ↔ IsReturnPaid (own_of name 1_000_000 (paid name deposited ∷ [])) 496 45_410
      → IsVerdict
      (case_of name 1_000_000 (paid name deposited ∷ []) as_of deposited small quarter_paid) verdict
      → IsDueRow closed_days (own_of name 1_000_000 (paid name deposited ∷ []))
      (january 45_335 1_000_000 ∷ []) 496 as_of
      (record {
        obligation = january 45_335 1_000_000;
        makeup = 45_410;
        paid = cents deposited;
        verdict = verdict;
      })
  paid_row name deposited small quarter_paid verdict is_small is_paid is =
      due_row name 1_000_000 (paid name deposited ∷ []) as_of deposited small quarter_paid verdict
      (paid_whole name 1_000_000 deposited as_of 45_335 (omega arith) (omega arith))
      (paid_whole name 1_000_000 deposited as_of 45_410 (omega arith) (omega arith))
      (paid_whole name 1_000_000 deposited as_of as_of (omega arith) (omega arith)) is_small is_paid
      is

  is_elm_row : IsAgendaRow kept as_of elm_row
  unfolding month_of month_from month_start
  is_elm_row = record {
    account = since_january;
    enrolled = refl;
    form_is = refl;
    owed = january 45_335 1_000_000 ∷ [];
    are_owed = owed_of elm 1_000_000 (paid elm 980_000 ∷ []) (omega arith) (omega arith);
    is_row = paid_row elm 980_000 false false Short (not_small elm (paid elm 980_000 ∷ []))
        (not_paid elm 980_000 (omega arith)) short;
    pay_by = refl;
  }

  is_fir_row : IsAgendaRow kept as_of fir_row
  unfolding month_of month_from month_start
  is_fir_row = record {
    account = since_january;
    enrolled = refl;
    form_is = refl;
    owed = january 45_335 1_000_000 ∷ [];
    are_owed = owed_of fir 1_000_000 (paid fir 1_000_000 ∷ []) (omega arith) (omega arith);
    is_row = paid_row fir 1_000_000 false true Met (not_small fir (paid fir 1_000_000 ∷ []))
        fir_paid met;
    pay_by = refl;
  }

  is_oak_row : IsAgendaRow kept as_of oak_row
  unfolding month_of month_from month_start
  is_oak_row = record {
    account = since_january;
    enrolled = refl;
    form_is = refl;
    owed = january 45_335 1_000_000 ∷ [];
    are_owed = owed_of oak 1_000_000 (paid oak 979_999 ∷ []) (omega arith) (omega arith);
    is_row = paid_row oak 979_999 false false Late (not_small oak (paid oak 979_999 ∷ []))
        (not_paid oak 979_999 (omega arith)) late;
    pay_by = refl;
  }

-- ---- and no others

no_figures : (name : List ℕ) → IsOnce (entries_of kept name)
no_figures name = record {
  quarters = λ corrected quarter figure other has also. absurd has;
  years = λ corrected quarter figure other has also. absurd has;
}

-- a row of an account that has one obligation is the row of it
only_row : (as_of : ℕ) (x y : AgendaRow) (o : Obligation)
    → AreOwed (holidays kept) (entries_of kept y.account) (o ∷ []) → y.row.obligation ≡ o
    → IsAgendaRow kept as_of y → x.account ≡ y.account → IsAgendaRow kept as_of x → x ≡ y
only_row as_of x y o owed is h named g =
    let there = subst (λ n. AreOwed (holidays kept) (entries_of kept n) g.owed) named g.are_owed in
    let rows : g.owed ≡ o ∷ [] = owed_one (holidays kept) (entries_of kept y.account) g.owed
    (o ∷ []) (no_figures y.account) there owed in
    elim (subst (λ xs. Has xs x.row.obligation) rows g.is_row.owed) [
      | inl same ↦ agenda_row_one kept as_of no_figures x y named
          (ap (λ (p : Obligation). p.first) (same ∙ sym is)) g h
      | inr none ↦ absurd none
    ]

module _ (as_of : ℕ) (over : 45_335 < as_of) (in_time : as_of ≤ 45_410) (pay_by : ℕ)
    (by : IsPayBy closed_days as_of (ash_row pay_by)) where
  all_rows : (x : AgendaRow) → IsAgendaRow kept as_of x
      → Has (ash_row pay_by ∷ elm_row ∷ fir_row ∷ oak_row ∷ []) x
  all_rows x h =
      let found = enrolled_under kept x.account h.account h.enrolled in
      elim found.1 [
        | inl is ↦
            (let named : x.account ≡ oak = sym found.2 ∙ ap (λ (e : Enrolled). e.name) is in
            inr (inr (inr (inl
            (only_row as_of x oak_row (january 45_335 1_000_000)
            (owed_of oak 1_000_000 (paid oak 979_999 ∷ []) (omega arith) (omega arith)) refl
            (is_oak_row as_of over in_time) named h)))))
        | inr rest ↦ elim rest [
          | inl is ↦
              (let named : x.account ≡ ash = sym found.2 ∙ ap (λ (e : Enrolled). e.name) is in
              inl
              (only_row as_of x (ash_row pay_by) (january 45_335 88_250)
              (owed_of ash 88_250 [] (omega arith) (omega arith)) refl
              (is_ash_row as_of over in_time pay_by by) named h))
          | inr more ↦ elim more [
            | inl is ↦
                (let named : x.account ≡ fir = sym found.2 ∙ ap (λ (e : Enrolled). e.name) is in
                inr (inr (inl
                (only_row as_of x fir_row (january 45_335 1_000_000)
                (owed_of fir 1_000_000 (paid fir 1_000_000 ∷ []) (omega arith) (omega arith)) refl
                (is_fir_row as_of over in_time) named h))))
            | inr last ↦ elim last [
              | inl is ↦
                  (let named : x.account ≡ elm = sym found.2 ∙ ap (λ (e : Enrolled). e.name) is in
                  inr (inl
                  (only_row as_of x elm_row (january 45_335 1_000_000)
                  (owed_of elm 1_000_000 (paid elm 980_000 ∷ []) (omega arith) (omega arith)) refl
                  (is_elm_row as_of over in_time) named h)))
              | inr none ↦ absurd none
            ]
          ]
        ]
      ]

  each_is : (x : AgendaRow) → Has (ash_row pay_by ∷ elm_row ∷ fir_row ∷ oak_row ∷ []) x
      → IsAgendaRow kept as_of x
  each_is =
      each (IsAgendaRow kept as_of) (ash_row pay_by ∷ elm_row ∷ fir_row ∷ oak_row ∷ []) (
        is_ash_row as_of over in_time pay_by by,
        (
          is_elm_row as_of over in_time,
          (is_fir_row as_of over in_time, (is_oak_row as_of over in_time, tt)),
        ),
      )

  -- all are due on 15 February
  due_then : (x : AgendaRow) → Has (ash_row pay_by ∷ elm_row ∷ fir_row ∷ oak_row ∷ []) x
      → due_date_of x ≡ 45_335
  due_then =
      each (λ x. due_date_of x ≡ 45_335) (ash_row pay_by ∷ elm_row ∷ fir_row ∷ oak_row ∷ [])
      (refl, (refl, (refl, (refl, tt))))

  -- of `fir` alone nothing is left to pay
  left_of_each : (x : AgendaRow) → Has (ash_row pay_by ∷ elm_row ∷ oak_row ∷ []) x
      ↔ (Has (ash_row pay_by ∷ elm_row ∷ fir_row ∷ oak_row ∷ []) x × (0 < left_of x.row))
  left_of_each x = (there x, (λ h. back x h.0 h.1))
    where
      some_left : (row : AgendaRow) → 0 < left_of row.row → (x : AgendaRow) → x ≡ row
          → 0 < left_of x.row
      some_left row some x is = subst (λ (z : AgendaRow). 0 < left_of z.row) (sym is) some

      there : (x : AgendaRow) → Has (ash_row pay_by ∷ elm_row ∷ oak_row ∷ []) x
          → Has (ash_row pay_by ∷ elm_row ∷ fir_row ∷ oak_row ∷ []) x × (0 < left_of x.row)
      there x (inl is) = (inl is, some_left (ash_row pay_by) (omega arith) x is)
      there x (inr (inl is)) = (inr (inl is), some_left elm_row (omega arith) x is)
      there x (inr (inr (inl is))) =
          (inr (inr (inr (inl is))), some_left oak_row (omega arith) x is)
      there x (inr (inr (inr none))) = absurd none

      back : (x : AgendaRow) → Has (ash_row pay_by ∷ elm_row ∷ fir_row ∷ oak_row ∷ []) x
          → 0 < left_of x.row → Has (ash_row pay_by ∷ elm_row ∷ oak_row ∷ []) x
      back x (inl is) some = inl is
      back x (inr (inl is)) some = inr (inl is)
      back x (inr (inr (inl is))) some =
          absurd (let none : 0 < 0 = subst (λ (z : AgendaRow). 0 < left_of z.row) is some in
          omega arith)
      back x (inr (inr (inr (inl is)))) some = inr (inr (inl is))
      back x (inr (inr (inr (inr none)))) some = absurd none

-- ---- what is answered: the rows are due on one day, and go by account

-- until the quarter is over, `ash` pays by the due date if its total may still grow
by_the_due_date : IsPayBy closed_days 45_340 (ash_row 45_335)
unfolding month_of month_from month_start
by_the_due_date = inr (omega arith, refl)

-- and after it with the return
with_the_return : IsPayBy closed_days 45_382 (ash_row 45_410)
unfolding month_of month_from month_start
with_the_return = inl (omega arith, return_of_the_quarter)

-- the agenda of 15 February, as of Tuesday 20 February
pub agenda_told : Step kept (request.Question (question.Agenda 45_335 45_335 45_340))
    (agenda_answer 45_335 45_335 45_340 (ash_row 45_335 ∷ elm_row ∷ fir_row ∷ oak_row ∷ [])) kept
unfolding month_of month_from month_start
agenda_told = (
  refl,
  record {
    listed = ash_row 45_335 ∷ elm_row ∷ fir_row ∷ oak_row ∷ [];
    in_order = in_order ComesBefore (ash_row 45_335 ∷ elm_row ∷ fir_row ∷ oak_row ∷ []) (
      (inr (refl, inl refl), (inr (refl, inl refl), (inr (refl, inl refl), tt))),
      (
        (inr (refl, inl refl), (inr (refl, inl refl), tt)),
        ((inr (refl, inl refl), tt), (tt, tt)),
      ),
    );
    all = λ x. (
      (λ has. (
        each_is 45_340 (omega arith) (omega arith) 45_335 by_the_due_date x has,
        (let due = due_then 45_340 (omega arith) (omega arith) 45_335 by_the_due_date x has in
            (omega arith, omega arith)),
      )),
      (λ h. all_rows 45_340 (omega arith) (omega arith) 45_335 by_the_due_date x h.0),
    );
    told = refl;
  },
)

-- what of it is owed, as of Tuesday 2 April
pub owed_told : Step kept (request.Question (question.Owed 45_335 45_382))
    (owed_answer 45_335 45_382 (ash_row 45_410 ∷ elm_row ∷ oak_row ∷ [])) kept
unfolding month_of month_from month_start
owed_told = (
  refl,
  record {
    listed = ash_row 45_410 ∷ elm_row ∷ oak_row ∷ [];
    in_order = in_order ComesBefore (ash_row 45_410 ∷ elm_row ∷ oak_row ∷ []) (
      (inr (refl, inl refl), (inr (refl, inl refl), tt)),
      ((inr (refl, inl refl), tt), (tt, tt)),
    );
    all = λ x. (
      (λ has.
          (let left = (left_of_each 45_382 (omega arith) (omega arith) 45_410 with_the_return x).0
          has in
          let due = due_then 45_382 (omega arith) (omega arith) 45_410 with_the_return x left.0 in (
            each_is 45_382 (omega arith) (omega arith) 45_410 with_the_return x left.0,
            (omega arith, left.1),
          ))),
      (λ h.
          (left_of_each 45_382 (omega arith) (omega arith) 45_410 with_the_return x).1
          (all_rows 45_382 (omega arith) (omega arith) 45_410 with_the_return x h.0, h.1.1)),
    );
    told = refl;
  },
)
