-- The lines that were put are those of the history after a change.
use Rattle.std.proofs.Common.{◌≡◌, ◌⊎◌, ℕ, List, [], ◌∷◌, map, Bool, false, Option, None, Some, inl}
use Rattle.std.proofs.Common.{inr, refl, sym, ap, ◌∙◌, subst}
use Rattle.ftd_days.proofs.Years.{same_or_not}
use Rattle.ftd_days.specs.declared.cents.Cents.{Cents}
use Rattle.ftd_rules.specs.declared.Form.{Form}
use Rattle.ftd_rules.specs.declared.Form.TheVariants.{F941, F943}
use Rattle.ftd_rules.specs.declared.Kind.{Kind}
use Rattle.ftd_rules.specs.declared.Kind.TheVariants.{Monthly, Semiweekly}
use Rattle.ftd_rules.specs.declared.YearLine.{YearLine}
use Rattle.ftd_rules.specs.declared.run.PayRun.{PayRun}
use Rattle.ftd_rules.specs.declared.run.Voidable.{Voidable}
use Rattle.ftd_rules.specs.Lists.{Has}
use Rattle.ftd_rules.specs.Years.{AreLines, AreOpenYears, basis_of}
use Rattle.ftd_rules.proofs.Earlier.{counterpart}
use Rattle.ftd_rules.proofs.Schedules.{line_one}
use Rattle.ftd_store.specs.Lists.{Pairs}
use Rattle.ftd_buckets.specs.Histories.{History}
use Rattle.ftd_buckets.specs.Patches.{AreChanged}
use Rattle.ftd_machine.specs.State.{Entry, Entries}
use Rattle.ftd_machine.specs.History.{form_of, is_carried, live_sums, AreCarried}
use Rattle.ftd_machine.specs.History.{AreLinesOf, IsLookbackOn}
use Rattle.ftd_machine.proofs.Lined.{years_same}
use Rattle.ftd_rules.proofs.Lines.{line_same}
use Rattle.ftd_repairs.specs.Rescheduled.{IsAfter, AreAfter, scheduled_as}

-- ---- equal lines

kinds : (a b : Kind) → (a ≡ b) ⊎ (a ≡ b → ⊥)
kinds Monthly Monthly = inl refl
kinds Monthly Semiweekly = inr (λ e. cc)
kinds Semiweekly Monthly = inr (λ e. cc)
kinds Semiweekly Semiweekly = inl refl

turns : (a b : Option ℕ) → (a ≡ b) ⊎ (a ≡ b → ⊥)
turns None None = inl refl
turns None (Some b) = inr (λ e. cc)
turns (Some a) None = inr (λ e. cc)
turns (Some a) (Some b) = elim (same_or_not a b) [
  | inl same ↦ inl (ap Some same)
  | inr other ↦ inr (λ e. other (let same : a ≡ b = cc in same))
]

-- two lines with the same basis are equal, or they are not
lines_or_not : (x y : YearLine) → basis_of x ≡ basis_of y → (x ≡ y) ⊎ (x ≡ y → ⊥)
lines_or_not x y e =
    elim (kinds x.opening y.opening) [
      | inr other ↦ inr (λ same. other (ap (λ (z : YearLine). z.opening) same))
      | inl opening ↦ elim (turns x.turn y.turn) [
        | inr other ↦ inr (λ same. other (ap (λ (z : YearLine). z.turn) same))
        | inl turn ↦ inl (line_same x y e opening turn)
      ]
    ]

-- ---- the lines after a change

module _ (before after : History) (changed : List YearLine) (some : AreOpenYears before.lines)
    (then : AreOpenYears after.lines) (same_years : map basis_of before.lines
    ≡ map basis_of after.lines)
    (are : AreChanged before after changed) where
  -- a line of the history before, what was put for it, and the line of its year after
  one_after : (x y z : YearLine) → Has before.lines x → Has after.lines z → basis_of x ≡ basis_of z
      → IsAfter changed x y → y ≡ z
  one_after x y z in_before in_after e (inl (other, in_changed, same_year, is)) =
      let year : x.year ≡ z.year = ap (λ (g : ℕ × ℕ × Bool). g.0) e in
      let one : other ≡ z = line_one then.0 after.lines other z then.2
      ((are.all other).0 in_changed).0 in_after (same_year ∙ year) in
      is ∙ line_same (scheduled_as x other) z e (ap (λ (l : YearLine). l.opening) one)
      (ap (λ (l : YearLine). l.turn) one)
  one_after x y z in_before in_after e (inr (is, none)) =
      let year : z.year ≡ x.year = sym (ap (λ (g : ℕ × ℕ × Bool). g.0) e) in
      elim (lines_or_not x z e) [
        | inl same ↦ is ∙ same
        | inr differs ↦
            absurd (none z
            ((are.all z).1 (
              in_after,
              λ there. differs
                  (sym (line_one some.0 before.lines z x some.2 there in_before year)),
            )) year)
      ]

  all_after : (xs ys zs : List YearLine) → Pairs (IsAfter changed) xs ys
      → map basis_of xs ≡ map basis_of zs
      → ((x : YearLine) → Has xs x → Has before.lines x)
      → ((z : YearLine) → Has zs z → Has after.lines z) → ys ≡ zs
  all_after [] [] [] pairs e in_before in_after = refl
  all_after [] [] (z ∷ zs) pairs e in_before in_after = absurd cc
  all_after [] (y ∷ ys) zs pairs e in_before in_after = absurd pairs
  all_after (x ∷ xs) [] zs pairs e in_before in_after = absurd pairs
  all_after (x ∷ xs) (y ∷ ys) [] pairs e in_before in_after = absurd cc
  all_after (x ∷ xs) (y ∷ ys) (z ∷ zs) pairs e in_before in_after =
      let first : ◌≡◌ {A = ℕ × ℕ × Bool} (basis_of x) (basis_of z) = cc in
      let later : map basis_of xs ≡ map basis_of zs = cc in
      let here : y ≡ z = one_after x y z (in_before x (inl refl)) (in_after z (inl refl)) first
      pairs.0 in
      let rest : ys ≡ zs = all_after xs ys zs pairs.1 later (λ l has. in_before l (inr has))
      (λ l has. in_after l (inr has)) in
      ap (λ l. l ∷ ys) here ∙ ap (λ ls. z ∷ ls) rest

  pub lines_after : (put : List YearLine) → AreAfter before.lines changed put → put ≡ after.lines
  lines_after put pairs = all_after before.lines put after.lines pairs same_years
      (λ x has. has) (λ z has. has)

-- ---- the lines of an account after a change of its runs

pub carried_same : (carried : Bool) (xs ys : List YearLine) → map basis_of xs ≡ map basis_of ys
    → AreCarried carried ys → AreCarried carried xs
carried_same carried [] ys e are = tt
carried_same carried (x ∷ xs) [] e are = absurd cc
carried_same carried (x ∷ xs) (y ∷ ys) e are =
    let first : ◌≡◌ {A = ℕ × ℕ × Bool} (basis_of x) (basis_of y) = cc in
    let later : map basis_of xs ≡ map basis_of ys = cc in
    (ap (λ (z : ℕ × ℕ × Bool). z.2) first ∙ are.0, carried_same false xs ys later are.1)

-- other runs change no lookback total
lookback_same : (form : Form) (own : Entries) (runs : List (Entry (Voidable PayRun))) (year : ℕ)
    (total : Cents) → IsLookbackOn form own year total
    → IsLookbackOn form (record own { runs = runs }) year total
lookback_same F941 own runs year total is = is
lookback_same F943 own runs year total is = is

pub lines_of_runs : (own : Entries) (runs : List (Entry (Voidable PayRun)))
    (lines others : List YearLine) → AreLinesOf own lines → map basis_of others ≡ map basis_of lines
    → AreLines (live_sums (record own { runs = runs })) others
    → AreLinesOf (record own { runs = runs }) others
lines_of_runs own runs lines others are e schedules = record {
  years = years_same others lines e ∙ are.years;
  lookbacks = λ line has.
      (let c = counterpart others lines line e has in
      let year : line.year ≡ c.0.year = ap (λ (z : ℕ × ℕ × Bool). z.0) c.2 in
      let amount : line.lookback.0 ≡ c.0.lookback.0 = ap (λ (z : ℕ × ℕ × Bool). z.1) c.2 in
      let cents : ℕ → Cents = λ n. record { 0 = n } in
      let its = lookback_same (form_of own.account) own runs c.0.year c.0.lookback
      (are.lookbacks c.0 c.1) in
      subst (λ y. IsLookbackOn (form_of own.account) (record own { runs = runs }) y line.lookback)
      (sym year)
      (subst (λ n. IsLookbackOn (form_of own.account) (record own { runs = runs }) c.0.year
      (cents n)) (sym amount) its));
  carried = carried_same (is_carried own.account) others lines e are.carried;
  schedules = schedules;
}
