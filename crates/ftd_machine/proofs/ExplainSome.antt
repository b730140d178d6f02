-- The obligation that covers a day can be explained.
use Rattle.std.proofs.Common.{◌≡◌, ◌∙◌, ◌⊎◌, inl, inr, refl, sym, ap, subst, ℕ, ◌+◌, ◌-◌, ◌<◌, ◌≤◌}
use Rattle.std.proofs.Common.{List, [], ◌∷◌, Option, None, Some, arith, Bool, true, false, rules}
use Rattle.std.specs.Prelude.{◌↔◌, zero, suc}
use Rattle.std.proofs.lemmas.Bool.{true≢false, cases_Bool, cases_lt}
use Rattle.std.proofs.lemmas.Bool.Decides.{eqb_tells}
use Rattle.std.proofs.lemmas.Option.{same_Some}
use Rattle.ftd_days.specs.Business.{is_business}
use Rattle.ftd_days.specs.Calendar.{weekday_of, quarter_of}
use Rattle.ftd_days.proofs.Business.{some_business}
use Rattle.ftd_rules.specs.declared.Obligation.{Obligation}
use Rattle.ftd_rules.specs.declared.Rule.{Rule}
use Rattle.ftd_rules.specs.declared.Rule.TheVariants.{Monthly, Semiweekly, NextDay}
use Rattle.ftd_rules.specs.declared.YearLine.{YearLine}
use Rattle.ftd_rules.specs.declared.payment.Payment.{Payment}
use Rattle.ftd_rules.specs.declared.run.Voidable.{Voidable}
use Rattle.ftd_rules.specs.Due.{fifteenth_after, IsDue}
use Rattle.ftd_rules.specs.Laws.{Covers, IsFirstCounted}
use Rattle.ftd_rules.specs.Liability.{liability}
use Rattle.ftd_rules.specs.Lists.{Has, KeysRise}
use Rattle.ftd_rules.specs.Returns.{month_after_ends}
use Rattle.ftd_machine.specs.State.{Entries, kept_at}
use Rattle.ftd_machine.specs.History.{form_of, live_sums, AreLinesOf, AreOwed}
use Rattle.ftd_machine.specs.Checks.{Answer}
use Rattle.ftd_machine.specs.Asking.{IsStatus}
use Rattle.ftd_machine.specs.Explaining.{IsPaydayOf, day_of_payday, IsKindOfDay}
use Rattle.ftd_machine.specs.Explaining.{IsCountedDay, day_counted, IsPaymentOf, Explains}
use Rattle.ftd_machine.specs.Explaining.{IsExplained, IsExplanation}
use Rattle.ftd_machine.specs.Agenda.{EachToLater}
use Rattle.ftd_machine.specs.Kept.{IsPaymentBefore}
use Rattle.ftd_machine.specs.declared.explained.CountedDay.{CountedDay}
use Rattle.ftd_machine.specs.declared.explained.DayKind.{DayKind}
use Rattle.ftd_machine.specs.declared.explained.DayKind.TheVariants.{Business, Saturday, Sunday}
use Rattle.ftd_machine.specs.declared.explained.DayKind.TheVariants.{Holiday}
use Rattle.ftd_machine.specs.declared.explained.Explanation.{Explanation}
use Rattle.ftd_machine.specs.declared.explained.RunningSum.{RunningSum}
use Rattle.ftd_machine.specs.declared.kept.KeptPayment.{KeptPayment}
use Rattle.ftd_machine.specs.Told.{explained_answer, status_answer}
use Rattle.ftd_machine.proofs.Counting.{no_business, kind_one, from_one}
use Rattle.ftd_machine.proofs.Dated.{dated}
use Rattle.ftd_machine.proofs.DueSome.{Or, both_or, like}
use Rattle.ftd_machine.proofs.KeptOne.{day_paid_for, payment_number, two_then, two_total}
use Rattle.ftd_machine.proofs.Lined.{owed_some}
use Rattle.ftd_machine.proofs.ToldSome.{status_on_line}
use Rattle.ftd_machine.proofs.Choosing.{chosen, kept_some}
use Rattle.ftd_machine.proofs.KeptSome.{all_in_order, holds_or}

-- ---- rows of a stretch of days

-- a row for each day for which there is one, rising
module _ {X : Type 0} (day_of : X → ℕ) (P : X → Type 0)
    (one : (x y : X) → day_of x ≡ day_of y → P x → P y → x ≡ y)
    (at : (day : ℕ) → ((x : X) × (day_of x ≡ day) × P x)
    ⊎ ((x : X) → day_of x ≡ day → P x → ⊥)) where
  abbrev pub LiesIn : ℕ → ℕ → X → Type 0
  LiesIn from n x = (from ≤ day_of x) × (day_of x < from + n) × P x

  pub by_day : (from n : ℕ)
      → (xs : List X) × KeysRise day_of xs × ((x : X) → Has xs x ↔ LiesIn from n x)
  by_day from zero = (
    [],
    tt,
    λ x. (
      (λ has. absurd has),
      (λ h. absurd (let a = h.0 in let b = h.1 in omega arith)),
    ),
  )
  by_day from (suc n) =
      let rest = by_day (from + 1) n in
      elim (at from) [
        | inr none ↦ (
          rest.0,
          rest.1,
          λ x. (
            (λ has. (let h = (rest.2 x).0 has in let a = h.0 in let b = h.1 in
                (omega arith, omega arith, h.2))),
            (λ h. elim (eqb_tells (day_of x) from) [
              | inl same ↦ absurd (none x same.1 h.2)
              | inr apart ↦ (rest.2 x).1 (let a = h.0 in let b = h.1 in
                  (beyond from (day_of x) a apart.1, omega arith, h.2))
            ]),
          ),
        )
        | inl it ↦ (
          it.0 ∷ rest.0,
          (
            (λ later has. (let h = (rest.2 later).0 has in let a = h.0 in let e = it.1 in
                omega arith)),
            rest.1,
          ),
          λ x. (
            (λ has. elim has [
              | inl is ↦ subst (LiesIn from (suc n)) (sym is) (let e = it.1 in
                  (omega arith, omega arith, it.2))
              | inr there ↦ (let h = (rest.2 x).0 there in let a = h.0 in let b = h.1 in
                  (omega arith, omega arith, h.2))
            ]),
            (λ h. elim (eqb_tells (day_of x) from) [
              | inl same ↦ inl (one x it.0 (same.1 ∙ sym it.1) h.2 it.2)
              | inr apart ↦ inr ((rest.2 x).1 (let a = h.0 in let b = h.1 in
                  (beyond from (day_of x) a apart.1, omega arith, h.2)))
            ]),
          ),
        )
      ]
    where
      beyond : (from day : ℕ) → from ≤ day → (day ≡ from → ⊥) → from + 1 ≤ day
      beyond from day l apart = omega arith

-- ---- paydays

module _ (own : Entries) (o : Obligation) where
  abbrev IsLiable : RunningSum → Type 0
  IsLiable x =
      (x.cents.0 ≡ liability (live_sums own) x.day x.day) × (0 < x.cents.0)
      × (x.total.0 ≡ liability (live_sums own) o.first x.day)

  liable_one : (x y : RunningSum) → x.day ≡ y.day → IsLiable x → IsLiable y → x ≡ y
  liable_one x y day g h =
      let cents : x.cents ≡ y.cents = like x.cents y.cents
      (g.0 ∙ ap (λ d. liability (live_sums own) d d) day ∙ sym h.0) in
      let total : x.total ≡ y.total = like x.total y.total
      (g.2 ∙ ap (λ d. liability (live_sums own) o.first d) day ∙ sym h.2) in
      rw (day, cents, total) refl

  liable_at : (day : ℕ) → ((x : RunningSum) × (x.day ≡ day) × IsLiable x)
      ⊎ ((x : RunningSum) → x.day ≡ day → IsLiable x → ⊥)
  liable_at day = elim (cases_lt 0 (liability (live_sums own) day day)) [
    | inl some ↦ inl (
      record {
        day = day;
        cents = record { 0 = liability (live_sums own) day day };
        total = record { 0 = liability (live_sums own) o.first day };
      },
      refl,
      (refl, some, refl),
    )
    | inr none ↦ inr (λ x same is.
        (let e = is.0 in let p = is.1 in
        let there : liability (live_sums own) x.day x.day ≡ liability (live_sums own) day day =
        ap (λ d. liability (live_sums own) d d) same in omega arith))
  ]

  paydays_some : o.first ≤ o.last → (xs : List RunningSum) × KeysRise day_of_payday xs
      × ((x : RunningSum) → Has xs x ↔ IsPaydayOf own o x)
  paydays_some some =
      let found = by_day day_of_payday IsLiable liable_one liable_at o.first
      (o.last + 1 - o.first) in (
        found.0,
        found.1,
        λ x. (
          (λ has. (let h = (found.2 x).0 has in let b = h.1 in
              ((h.0, omega arith), h.2.0, h.2.1, h.2.2))),
          (λ h. (found.2 x).1 (let a = h.0.0 in let b = h.0.1 in
              (a, omega arith, (h.1, h.2, h.3)))),
        ),
      )

-- ---- the days that are counted

module _ (holidays : List ℕ) where
  kind_some : (day : ℕ) → (kind : DayKind) × IsKindOfDay holidays day kind
  kind_some day = elim (eqb_tells (weekday_of day) 5) [
    | inl saturday ↦ (Saturday, saturday.1)
    | inr not_saturday ↦ elim (eqb_tells (weekday_of day) 6) [
      | inl sunday ↦ (Sunday, sunday.1)
      | inr not_sunday ↦ elim (cases_Bool (is_business holidays day)) [
        | inl business ↦ (Business, business)
        | inr none ↦ (Holiday, no_business holidays day not_saturday.1 not_sunday.1 none)
      ]
    ]
  ]

  abbrev IsOfKind : CountedDay → Type 0
  IsOfKind x = IsKindOfDay holidays x.day x.kind

  counted_one : (x y : CountedDay) → x.day ≡ y.day → IsOfKind x → IsOfKind y → x ≡ y
  counted_one x y day g h =
      let kind : x.kind ≡ y.kind = kind_one holidays y.day x.kind y.kind
      (subst (λ d. IsKindOfDay holidays d x.kind) day g) h in
      rw (day, kind) refl

  counted_at : (day : ℕ) → ((x : CountedDay) × (x.day ≡ day) × IsOfKind x)
      ⊎ ((x : CountedDay) → x.day ≡ day → IsOfKind x → ⊥)
  counted_at day =
      let kind = kind_some day in inl (record { day = day; kind = kind.0 }, refl, kind.1)

  -- there is a first day that is counted
  from_some : (rule : Rule) (last due : ℕ) → IsDue holidays rule last due
      → (from : ℕ) × IsFirstCounted rule last from
  from_some Monthly last due is = (fifteenth_after last, refl)
  from_some Semiweekly last due is = (is.0 + 1, (is.0, is.1, refl))
  from_some NextDay last due is = (last + 1, refl)

  days_some : (o : Obligation) → IsDue holidays o.rule o.last o.due
      → (xs : List CountedDay) × KeysRise day_counted xs
      × ((x : CountedDay) → Has xs x ↔ IsCountedDay holidays o x)
  days_some o is_due =
      let from = from_some o.rule o.last o.due is_due in
      let found = by_day day_counted IsOfKind counted_one counted_at from.0
      (o.due + 1 - from.0) in (
        found.0,
        found.1,
        λ x. (
          (λ has. (let h = (found.2 x).0 has in let a = h.0 in let b = h.1 in
              (from.0, from.1, a, omega arith, h.2))),
          (λ h. (found.2 x).1 (let same = from_one o.rule o.last from.0 h.0 from.1 h.1 in
              let a = h.2 in let b = h.3 in (omega arith, omega arith, h.4))),
        ),
      )

-- ---- payments

payment_of_one : (own : Entries) (o : Obligation) (x y : KeptPayment) → IsPaymentOf own o x
    → IsPaymentOf own o y → x.number ≡ y.number → x ≡ y
payment_of_one own o x y g h same =
    let kept : record { value = x.payment; voided = false } ≡ record {
      value = y.payment;
      voided = false;
    } = same_Some (record { value = x.payment; voided = false }) (record {
      value = y.payment;
      voided = false;
    }) (sym g.0 ∙ subst (λ k. kept_at k own.payments ≡ Some (record {
      value = y.payment;
      voided = false;
    })) (sym same) h.0) in
    let payment : x.payment ≡ y.payment = ap (λ (v : Voidable Payment). v.value) kept in
    let voided : x.voided ≡ y.voided = g.2 ∙ sym h.2 in
    let obligation : x.obligation ≡ y.obligation = g.3 ∙ sym h.3 in
    rw (same, payment, voided, obligation) refl

flag_is : (b : Bool) → Or (b ≡ false)
flag_is true = inr (λ e. true≢false e)
flag_is false = inl refl

payments_some : (own : Entries) (o : Obligation)
    → (xs : List KeptPayment) × EachToLater IsPaymentBefore xs
    × ((x : KeptPayment) → Has xs x ↔ IsPaymentOf own o x)
payments_some own o =
    let made = kept_some
    (λ number (v : Voidable Payment). record {
      number = number;
      payment = v.value;
      voided = v.voided;
      obligation = Some o.first;
    }) own.payments in
    let its = chosen (λ (x : KeptPayment). (x.voided ≡ false) × Covers o x.payment.for_day)
    (λ x. both_or (flag_is x.voided) (holds_or o x.payment.for_day)) made.0 in
    let are : (x : KeptPayment) → Has its.0 x ↔ IsPaymentOf own o x = λ x. (
      (λ has.
          (let h = (its.1 x).0 has in
          let k = (made.1 x).0 h.0 in
          let voided : x.voided ≡ false = h.1.0 in
          let kept : kept_at x.number own.payments
          ≡ Some (record { value = x.payment; voided = x.voided }) =
          subst (λ (r : KeptPayment). kept_at r.number own.payments
          ≡ Some (record { value = r.payment; voided = r.voided })) (sym k.3) k.2 in (
            subst (λ v. kept_at x.number own.payments
                ≡ Some (record { value = x.payment; voided = v })) voided kept,
            h.1.1,
            voided,
            ap (λ (r : KeptPayment). r.obligation) k.3,
          ))),
      (λ is. (its.1 x).1 (
        (made.1 x).1 (x.number, record { value = x.payment; voided = false }, is.0, whole x is),
        (is.2, is.1),
      )),
    ) in
    all_in_order IsPaymentBefore (IsPaymentOf own o) (two_then day_paid_for payment_number)
    (λ x y g h. two_total day_paid_for payment_number x y (payment_of_one own o x y g h)) its.0 are
  where
    whole : (x : KeptPayment) → IsPaymentOf own o x
        → x ≡ record {
          number = x.number;
          payment = x.payment;
          voided = false;
          obligation = Some o.first;
        }
    whole x is = let voided = is.2 in let obligation = is.3 in rw (voided, obligation) refl

-- ---- the explanation

-- the obligation that covers the day, if one does
covering_or : (owed : List Obligation) (day : ℕ)
    → ((o : Obligation) × Has owed o × Covers o day)
    ⊎ ((o : Obligation) → Has owed o → Covers o day → ⊥)
covering_or [] day = inr (λ o has covers. has)
covering_or (p ∷ owed) day = elim (holds_or p day) [
  | inl covers ↦ inl (p, inl refl, covers)
  | inr not ↦ elim (covering_or owed day) [
    | inl found ↦ inl (found.0, inr found.1, found.2)
    | inr none ↦ inr (λ o has covers. elim has [
      | inl is ↦ not (subst (λ (q : Obligation). Covers q day) is covers)
      | inr more ↦ none o more covers
    ])
  ]
]

module _ (holidays : List ℕ) (own : Entries) (lines : List YearLine)
    (are_lines : AreLinesOf own lines) where
  explain : (owed : List Obligation) (are : AreOwed holidays own owed) (o : Obligation)
      → Has owed o → (e : Explanation) × (e.obligation ≡ o) × Explains holidays own owed e
  explain owed are o has =
      let its = dated holidays own owed are o has in
      let status = status_on_line own are.0 its.line o.first are.1 its.open_year its.begins in
      let schedule : IsStatus own o.first
      (status_answer o.first status.1.status status.1.why) =
      subst (IsStatus own o.first) status.1.told status.1 in
      let paydays = paydays_some own o its.some in
      let counted = days_some holidays o ((are.2.all o).0 has).due in
      let r = some_business holidays
      (month_after_ends (form_of own.account) (quarter_of o.first)) in
      let payments = payments_some own o in (
        record {
          obligation = o;
          kind = status.1.status;
          reason = status.1.why;
          paydays = paydays.0;
          days = counted.0;
          return_due = r.0;
          payments = payments.0;
        },
        refl,
        search rules,
      )

  pub explanation_some : (name : List ℕ) (day : ℕ)
      → (answer : Answer) × IsExplanation holidays own name day answer
  explanation_some name day =
      let owed = owed_some holidays own lines are_lines in
      let found : (x : Option Explanation) × IsExplained holidays own owed.0 day x =
      elim (covering_or owed.0 day) [
        | inr none ↦ (None, none)
        | inl o ↦
            (let e = explain owed.0 owed.1 o.0 o.1 in (
              Some e.0,
              (e.2, subst (λ (q : Obligation). Covers q day) (sym e.1) o.2),
            ))
      ] in (
        explained_answer name day found.0,
        search rules,
      )
