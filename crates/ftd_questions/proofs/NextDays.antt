-- Whether an obligation that begins in a return period is a next-day one, by the period's quarters.
use Rattle.std.proofs.Common.{◌≡◌, ◌↔◌, ℕ, ◌+◌, ◌-◌, ◌%◌, ◌<◌, ◌≤◌, ◌==◌, ◌&&◌, Bool, true, false}
use Rattle.std.proofs.Common.{inl, inr, List, refl, sym, ◌∙◌, arith}
use Rattle.std.specs.Prelude.{filter}
use Rattle.std.specs.List.{list_any}
use Rattle.std.proofs.lemmas.Bool.{cases_Bool, true≢false, eqb-true, eq-eqb, and_parts}
use Rattle.ftd_rules.proofs.Members.{some_pass, any_has}
use Rattle.ftd_days.specs.Calendar.{quarter_of, quarter_year}
use Rattle.ftd_rules.specs.declared.Form.{Form}
use Rattle.ftd_rules.specs.declared.Form.TheVariants.{F941, F943}
use Rattle.ftd_rules.specs.declared.Obligation.{Obligation}
use Rattle.ftd_rules.specs.Periods.{return_period_of}
use Rattle.ftd_rules.proofs.Members.{has_kept}
use Rattle.ftd_machine.specs.Asking.{return_period, has_next_day}
use Rattle.ftd_machine.proofs.Members.{has_filtered}
use Rattle.ftd_questions.specs.DueRows.{begins_in, is_next_day_row}
use Rattle.ftd_questions.proofs.OwedDays.{quarter_begins}

-- ---- the quarters of a return period

pub of_941 : (quarter day : ℕ) → quarter_year quarter ≤ 2098
    → (return_period_of F941 day ≡ return_period F941 quarter) ↔ ((quarter ≤ quarter_of day)
    × (quarter_of day < quarter + 1))
of_941 quarter day early = let its = quarter_begins quarter early in
    ((λ e. (omega arith, omega arith)), (λ h. let low = h.0 in let high = h.1 in omega arith))

pub of_943 : (quarter day : ℕ) → quarter_year quarter ≤ 2098
    → (return_period_of F943 day ≡ return_period F943 quarter)
    ↔ ((quarter - quarter % 4 ≤ quarter_of day) × (quarter_of day < quarter - quarter % 4 + 4))
of_943 quarter day early = let its = quarter_begins quarter early in
    ((λ e. (omega arith, omega arith)), (λ h. let low = h.0 in let high = h.1 in omega arith))

-- ---- some obligations, and the quarters from the first to the end, which are those of a return
-- period

module _ (form : Form) (number first end : ℕ) (owed : List Obligation) (same : (day : ℕ)
    → (return_period_of form day ≡ number) ↔ ((first ≤ quarter_of day)
    × (quarter_of day < end))) where
  abbrev counts : Obligation → Bool
  counts o = (return_period_of form o.first == number) && is_next_day_row o

  -- one begins in one of the quarters
  pub some_begins : (quarter : ℕ) → first ≤ quarter → quarter < end → list_any is_next_day_row
      (filter (begins_in quarter) owed) ≡ true → has_next_day form owed number ≡ true
  some_begins quarter low high some =
      let found = some_pass is_next_day_row (filter (begins_in quarter) owed) some in
      let o : Obligation = found.0 in
      let its = has_filtered (begins_in quarter) owed o found.1 in
      let within : quarter_of o.first ≡ quarter = eqb-true (quarter_of o.first) quarter its.1 in
      let period : (return_period_of form o.first == number) ≡ true =
      eq-eqb (return_period_of form o.first) number ((same o.first).1 (omega arith, omega arith)) in
      any_has counts owed o its.0 (rw (period, found.2) refl)

  -- none begins in any of them
  pub none_begins : ((quarter : ℕ) → first ≤ quarter → quarter < end → list_any is_next_day_row
      (filter (begins_in quarter) owed) ≡ false) → has_next_day form owed number ≡ false
  none_begins none = elim (cases_Bool (has_next_day form owed number)) [
    | inr is ↦ is
    | inl some ↦
        (let found = some_pass counts owed some in
        let o : Obligation = found.0 in
        let tests = and_parts (return_period_of form o.first == number) (is_next_day_row o) found.2
        in
        let days = (same o.first).0 (eqb-true (return_period_of form o.first) number tests.0) in
        let has = has_kept (begins_in (quarter_of o.first)) owed o found.1
        (eq-eqb (quarter_of o.first) (quarter_of o.first) refl) in
        absurd (true≢false
        (sym (any_has is_next_day_row (filter (begins_in (quarter_of o.first)) owed) o has tests.1)
        ∙ none (quarter_of o.first) days.0 days.1)))
  ]
