-- The business days among the days of an explanation.
use Rattle.std.proofs.Common.{◌≡◌, ℕ, zero, suc, ◌+◌, ◌≤◌, ◌↔◌, inl, inr, List, [], ◌∷◌}
use Rattle.std.proofs.Common.{Bool, refl, sym, ap, ◌∙◌, arith}
use Rattle.std.specs.Prelude.{nat_lt, if◌then◌else◌, cond}
use Rattle.std.specs.List.{count_by}
use Rattle.std.proofs.lemmas.Bool.{cases_Bool, cases_lt}
use Rattle.std.proofs.lemmas.Bool.Decides.{eqb_tells}
use Rattle.std.proofs.lemmas.List.Sums.{sum_by-cons}
use Rattle.std.proofs.Math.Bool.{and-false}
use Rattle.ftd_days.specs.Calendar.{weekday_of}
use Rattle.ftd_days.specs.Business.{is_business, business_days}
use Rattle.ftd_days.proofs.Business.{count_more}
use Rattle.ftd_rules.specs.Lists.{Has, KeysRise}
use Rattle.ftd_machine.specs.State.{latest}
use Rattle.ftd_machine.specs.Explaining.{IsKindOfDay, day_counted}
use Rattle.ftd_machine.specs.declared.explained.CountedDay.{CountedDay}
use Rattle.ftd_machine.specs.declared.explained.DayKind.{DayKind}
use Rattle.ftd_machine.specs.declared.explained.DayKind.TheVariants.{Business, Saturday, Sunday}
use Rattle.ftd_machine.specs.declared.explained.DayKind.TheVariants.{Holiday}
use Rattle.ftd_machine.proofs.Counting.{no_business}
use Rattle.ftd_cases.specs.Laws.{is_business_kind, is_counted_business}

module _ (holidays : List ℕ) where
  -- each day is something
  kind_some : (day : ℕ) → (kind : DayKind) × IsKindOfDay holidays day kind
  kind_some day = elim (eqb_tells (weekday_of day) 5) [
    | inl saturday ↦ (Saturday, saturday.1)
    | inr not_saturday ↦ elim (eqb_tells (weekday_of day) 6) [
      | inl sunday ↦ (Sunday, sunday.1)
      | inr not_sunday ↦ elim (cases_Bool (is_business holidays day)) [
        | inl business ↦ (Business, business)
        | inr none ↦ (Holiday, no_business holidays day not_saturday.1 not_sunday.1 none)
      ]
    ]
  ]

  -- what is told of a day says whether it is a business day
  tells_business : (day : ℕ) (kind : DayKind) → IsKindOfDay holidays day kind
      → is_business_kind kind ≡ is_business holidays day
  tells_business day Business is = sym is
  tells_business day Saturday is = rw is refl
  tells_business day Sunday is = rw is refl
  tells_business day Holiday is = sym (rw is.1 (and-false (nat_lt (weekday_of day) 5)))

  abbrev pub AreCounted : ℕ → ℕ → List CountedDay → Type 0
  AreCounted a b xs =
      (x : CountedDay)
      → Has xs x ↔ ((a ≤ x.day) × (x.day ≤ b) × IsKindOfDay holidays x.day x.kind)

  some_on : (a b : ℕ) (xs : List CountedDay) → AreCounted a b xs → (d : ℕ) → a ≤ d → d ≤ b
      → (x : CountedDay) × (x.day ≡ d) × Has xs x
  some_on a b xs are d l m =
      let kind = kind_some d in
      let x : CountedDay = record { day = d; kind = kind.0 } in
      (x, refl, (are x).1 (l, m, kind.1))

  later : (a b : ℕ) (x : CountedDay) (xs : List CountedDay) → KeysRise day_counted (x ∷ xs)
      → AreCounted a b (x ∷ xs) → AreCounted (x.day + 1) b xs
  later a b x xs rise are y =
      let from = ((are x).0 (inl refl)).0 in (
        (λ has. (let is = (are y).0 (inr has) in let less = rise.0 y has in
            (omega arith, is.1, is.2))),
        (λ is. (let l = is.0 in
            elim ((are y).1 (omega arith, is.1, is.2)) [
              | inr there ↦ there
              | inl same ↦ absurd
                  (let day : y.day ≡ x.day = ap (λ (z : CountedDay). z.day) same in omega arith)
            ])),
      )

  -- the first of them is the first of the days
  first_on : (a b : ℕ) (x : CountedDay) (xs : List CountedDay) → KeysRise day_counted (x ∷ xs)
      → AreCounted a b (x ∷ xs) → a ≤ b → x.day ≡ a
  first_on a b x xs rise are some =
      let from = ((are x).0 (inl refl)).0 in
      let y = some_on a b (x ∷ xs) are a (omega arith) some in
      let day = y.1 in
      elim y.2 [
        | inl same ↦ (let e : y.0.day ≡ x.day = ap (λ (z : CountedDay). z.day) same in omega arith)
        | inr more ↦ absurd (let less = rise.0 y.0 more in omega arith)
      ]

  pub business_counted : (xs : List CountedDay) (p n : ℕ) → KeysRise day_counted xs
      → AreCounted (p + 1) (p + n) xs
      → count_by is_counted_business xs ≡ business_days holidays p n
  business_counted [] p zero rise are = refl
  business_counted [] p (suc n) rise are =
      absurd ((some_on (p + 1) (p + suc n) [] are (p + 1) (omega arith) (omega arith)).2)
  business_counted (x ∷ xs) p zero rise are =
      absurd (let is = (are x).0 (inl refl) in let l = is.0 in let m = is.1 in omega arith)
  business_counted (x ∷ xs) p (suc n) rise are =
      let is = (are x).0 (inl refl) in
      let day = first_on (p + 1) (p + suc n) x xs rise are (omega arith) in
      let kind : is_business_kind x.kind ≡ is_business holidays (p + 1) =
      tells_business x.day x.kind is.2 ∙ ap (is_business holidays) day in
      let end : p + suc n ≡ p + 1 + n = omega arith in
      let rest : AreCounted (p + 1 + 1) (p + 1 + n) xs =
      rw (day, end) at (later (p + 1) (p + suc n) x xs rise are) in
      let ih = business_counted xs (p + 1) n rise.1 rest in
      let one : 1 + n ≡ suc n = omega arith in
      let parts : business_days holidays p (suc n)
      ≡ business_days holidays p 1 + business_days holidays (p + 1) n =
      ap (business_days holidays p) (sym one) ∙ count_more holidays p 1 n in
      let first : business_days holidays p 1
      ≡ 0 + (if is_business holidays (p + 1) then 1 else 0) = refl in
      let cons : count_by is_counted_business (x ∷ xs)
      ≡ cond (is_counted_business x) 1 0 + count_by is_counted_business xs =
      sum_by-cons (λ (z : CountedDay). cond (is_counted_business z) 1 0) x xs in
      let here : 0 + cond (is_counted_business x) 1 0
      ≡ 0 + (if is_business holidays (p + 1) then 1 else 0) =
      ap (λ (b : Bool). 0 + cond b 1 0) kind in
      omega arith

  -- the last of them is the last of the days
  pub last_on : (x : CountedDay) (xs : List CountedDay) (a b : ℕ) → KeysRise day_counted (x ∷ xs)
      → AreCounted a b (x ∷ xs) → Has (x ∷ xs) (latest x xs) × ((latest x xs).day ≡ b)
  last_on x [] a b rise are =
      let is = (are x).0 (inl refl) in
      let from = is.0 in
      let to = is.1 in (
        inl refl,
        elim (cases_lt x.day b) [
          | inr all ↦ omega arith
          | inl more ↦ absurd
              ((some_on (x.day + 1) b [] (later a b x [] rise are) b (omega arith)
              (omega arith)).2)
        ],
      )
  last_on x (y ∷ ys) a b rise are =
      let rest = last_on y ys (x.day + 1) b rise.1 (later a b x (y ∷ ys) rise are) in
      (inr rest.0, rest.1)
