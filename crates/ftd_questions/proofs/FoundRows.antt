-- The obligations that were found on the days of a return period, by its quarter.
use Rattle.std.proofs.Common.{◌≡◌, ℕ, ◌≤◌, ◌==◌, ◌&&◌, ◌||◌, Bool, true, false, inl, inr, List, []}
use Rattle.std.proofs.Common.{◌∷◌, refl, sym, ap, ◌∙◌}
use Rattle.std.specs.Prelude.{filter}
use Rattle.std.specs.List.{list_any}
use Rattle.std.proofs.lemmas.Bool.{cases_Bool, true≢false, eqb-true, eq-eqb}
use Rattle.ftd_days.specs.Calendar.{quarter_of, quarter_year, quarter_start}
use Rattle.ftd_rules.specs.declared.Form.{Form}
use Rattle.ftd_rules.specs.declared.Obligation.{Obligation}
use Rattle.ftd_rules.specs.Lists.{Has}
use Rattle.ftd_rules.specs.Periods.{return_period_of}
use Rattle.ftd_rules.proofs.Members.{filter_in, filter_out}
use Rattle.ftd_rules.specs.Obligations.{begins_on}
use Rattle.ftd_sql.specs.Standing.{Tables}
use Rattle.ftd_machine.specs.State.{State, entries_of}
use Rattle.ftd_machine.specs.History.{form_of}
use Rattle.ftd_machine.specs.Asking.{return_period, has_next_day}
use Rattle.ftd_entries.specs.Standing.{StandsFor}
use Rattle.ftd_entries.specs.Owed.{KnowsObligations}
use Rattle.ftd_entries.specs.Returns.{KnowsPeriod}
use Rattle.ftd_questions.specs.DueRows.{begins_in, is_next_day_row}
use Rattle.ftd_questions.specs.Walks.{begun}
use Rattle.ftd_entries.specs.declared.return_periods.ReturnFacts.{ReturnFacts}
use Rattle.ftd_questions.proofs.DueListed.{same_return}
use Rattle.ftd_questions.proofs.OwedDays.{quarter_begins, begins_is}

-- one of what a test keeps meets another test
any_kept : {X : Type 0} (p r q : X → Bool) (xs : List X) → ((x : X) → Has xs x → p x ≡ r x)
    → list_any q (filter p xs) ≡ list_any (λ x. r x && q x) xs
any_kept p r q [] same = refl
any_kept p r q (x ∷ xs) same =
    let rest = any_kept p r q xs (λ y has. same y (inr has)) in
    elim (cases_Bool (p x)) [
      | inl kept ↦
          (let here : r x ≡ true = sym (same x (inl refl)) ∙ kept in
          ap (list_any q) (filter_in p x xs kept)
          ∙ (ap (λ b. q x || b) rest
          ∙ sym (ap (λ b. (b && q x) || list_any (λ y. r y && q y) xs) here)))
      | inr left ↦
          (let here : r x ≡ false = sym (same x (inl refl)) ∙ left in
          ap (list_any q) (filter_out p x xs left)
          ∙ (rest ∙ sym (ap (λ b. (b && q x) || list_any (λ y. r y && q y) xs) here)))
    ]

-- what a test keeps of those that another keeps which it implies
kept_twice : {X : Type 0} (p q : X → Bool) (xs : List X)
    → ((x : X) → Has xs x → p x ≡ true → q x ≡ true) → filter p (filter q xs) ≡ filter p xs
kept_twice p q [] implied = refl
kept_twice {X = X} p q (x ∷ xs) implied =
    let rest : filter p (filter q xs) ≡ filter p xs =
    kept_twice p q xs (λ y has. implied y (inr has)) in
    elim (cases_Bool (q x)) [
      | inl kept ↦ ap (filter p) (filter_in q x xs kept) ∙ elim (cases_Bool (p x)) [
        | inl also ↦ filter_in p x (filter q xs) also
            ∙ (ap (λ (l : List X). x ∷ l) rest ∙ sym (filter_in p x xs also))
        | inr only ↦ filter_out p x (filter q xs) only ∙ (rest ∙ sym (filter_out p x xs only))
      ]
      | inr left ↦ elim (cases_Bool (p x)) [
        | inl also ↦ absurd (true≢false (sym (implied x (inl refl) also) ∙ left))
        | inr only ↦ ap (filter p) (filter_out q x xs left) ∙ (rest ∙ sym (filter_out p x xs only))
      ]
    ]

module _ (name : List ℕ) (quarter : ℕ) (to_2098 : quarter_year quarter ≤ 2098)
    (period : ReturnFacts) (found : List Obligation) (t : Tables) (s : State)
    (stands : StandsFor t s)
    (known : KnowsPeriod name (form_of (entries_of s name).account) quarter period t)
    (are_found : KnowsObligations name period.first period.last found t) where
  abbrev form : Form
  form = form_of (entries_of s name).account

  abbrev owed : List Obligation
  owed = (stands.settled name).owed

  abbrev number : ℕ
  number = return_period form quarter

  of_period : (o : Obligation) → Has owed o → begins_on period.first period.last o
      ≡ (return_period_of form o.first == number)
  of_period = begins_is name t s stands form number period.first period.last known.first known.last

  pub next_day_found : list_any is_next_day_row found ≡ has_next_day form owed number
  next_day_found =
      ap (list_any is_next_day_row) (are_found s stands)
      ∙ any_kept (begins_on period.first period.last) (λ o. return_period_of form o.first == number)
      is_next_day_row owed of_period

  pub found_begun : filter (begins_in quarter) found ≡ begun stands name quarter
  found_begun =
      ap (filter (begins_in quarter)) (are_found s stands)
      ∙ kept_twice (begins_in quarter) (begins_on period.first period.last) owed
      (λ o has its.
      of_period o has
      ∙ eq-eqb (return_period_of form o.first) number
      (same_return form o.first (quarter_start quarter) (eqb-true (quarter_of o.first) quarter its
      ∙ sym (quarter_begins quarter to_2098))))
