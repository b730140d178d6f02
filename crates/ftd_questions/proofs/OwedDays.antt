-- The days of an account's obligations.
use Rattle.std.proofs.Common.{◌≡◌, ℕ, ◌+◌, ◌-◌, ◌*◌, ◌<◌, ◌≤◌, ◌==◌, Bool, true, inl, inr, List, []}
use Rattle.std.proofs.Common.{◌∷◌, refl, sym, ap, ◌∙◌, subst, arith}
use Rattle.std.specs.Prelude.{filter, nat_le}
use Rattle.std.proofs.lemmas.Bool.{cases_Bool, eqb-true, eq-eqb, leb-true, le-leb, and_parts}
use Rattle.ftd_days.specs.Calendar.{last_day, month_start, quarter_of, quarter_year, quarter_start}
use Rattle.ftd_days.proofs.Months.{month_start-mono, month_start-end, month_start_grows}
use Rattle.ftd_rules.specs.declared.Form.{Form}
use Rattle.ftd_rules.specs.declared.Form.TheVariants.{F941}
use Rattle.ftd_rules.specs.declared.Obligation.{Obligation}
use Rattle.ftd_rules.specs.Lists.{Has}
use Rattle.ftd_rules.specs.Periods.{return_period_of, return_period_first, return_period_last}
use Rattle.ftd_rules.specs.Periods.{return_period_end}
use Rattle.ftd_rules.specs.Private.Obligations.{IsOwedPiece}
use Rattle.ftd_rules.proofs.Covering.{within_period}
use Rattle.ftd_rules.proofs.Quarters.{one_quarter}
use Rattle.ftd_rules.proofs.Stated.{piece_owed}
use Rattle.ftd_rules.proofs.Status.{quarter_only, return_period_is, return_period_only}
use Rattle.ftd_rules.proofs.Status.{return_period_grows}
use Rattle.ftd_rules.proofs.Members.{filter_in, filter_out}
use Rattle.ftd_rules.specs.Obligations.{begins_on}
use Rattle.ftd_sql.specs.Standing.{Tables}
use Rattle.ftd_machine.specs.State.{State, entries_of, holidays}
use Rattle.ftd_machine.specs.History.{form_of, live_sums}
use Rattle.ftd_entries.specs.Standing.{StandsFor}
use Rattle.ftd_questions.specs.DueRows.{begins_in}
use Rattle.ftd_questions.specs.Walks.{begun}
use Rattle.ftd_questions.proofs.OneVerdict.{same_test}

-- the first day of a quarter lies in it
pub quarter_begins : (quarter : ℕ) → quarter_year quarter ≤ 2098
    → quarter_of (quarter_start quarter) ≡ quarter
quarter_begins quarter early =
    let top = month_start-mono (3 * quarter + 3) 3600 (omega arith) in
    let end = month_start-end in
    let grows = month_start_grows (3 * quarter) 3 in
    quarter_only (quarter_start quarter) quarter (omega arith) (omega arith) (omega arith)

-- tests that agree on a list keep the same of it
pub filter_same : {X : Type 0} (p q : X → Bool) (xs : List X) → ((x : X) → Has xs x → p x ≡ q x)
    → filter p xs ≡ filter q xs
filter_same p q [] same = refl
filter_same {X = X} p q (x ∷ xs) same =
    let rest : filter p xs ≡ filter q xs = filter_same p q xs (λ y has. same y (inr has)) in
    elim (cases_Bool (p x)) [
      | inl kept ↦ filter_in p x xs kept
          ∙ (ap (λ (l : List X). x ∷ l) rest
          ∙ sym (filter_in q x xs (sym (same x (inl refl)) ∙ kept)))
      | inr left ↦ filter_out p x xs left
          ∙ (rest ∙ sym (filter_out q x xs (sym (same x (inl refl)) ∙ left)))
    ]

module _ (name : List ℕ) (t : Tables) (s : State) (stands : StandsFor t s) where
  abbrev form : Form
  form = form_of (entries_of s name).account

  abbrev owed : List Obligation
  owed = (stands.settled name).owed

  pub piece : (o : Obligation) → Has owed o → IsOwedPiece form (stands.settled name).lines
      (live_sums (entries_of s name)) (holidays s) o
  piece o has = piece_owed form (stands.settled name).lines (live_sums (entries_of s name))
      (holidays s) o (((stands.settled name).are_owed.all o).0 has)

  pub period_days : (o : Obligation) → Has owed o
      → (return_period_of form o.last ≡ return_period_of form o.first) × (o.last ≤ last_day)
  period_days o has = one_quarter form (stands.settled name).lines (live_sums (entries_of s name))
      (holidays s) o (stands.settled name).are_lines.schedules (piece o has)

  pub some_days : (o : Obligation) → Has owed o → o.first ≤ o.last
  some_days o has = (within_period form (stands.settled name).lines (live_sums (entries_of s name))
      (holidays s) o (piece o has)).1

  first_is_day : (o : Obligation) → Has owed o → o.first ≤ last_day
  first_is_day o has = let some = some_days o has in let within = (period_days o has).1 in
      omega arith

  -- an obligation that begins on the days of a return period of some form is one of that period
  pub begins_is : (its : Form) (number first last : ℕ) → first ≡ return_period_first its number
      → last ≡ return_period_last its number
      → (o : Obligation) → Has owed o
      → begins_on first last o ≡ (return_period_of its o.first == number)
  begins_is its number first last first_is last_is o has =
      same_test {P = return_period_of its o.first ≡ number} (begins_on first last o)
      (return_period_of its o.first == number) ((λ k. it k), (λ e. back e)) (
        (λ k. eqb-true (return_period_of its o.first) number k),
        (λ e. eq-eqb (return_period_of its o.first) number e),
      )
    where
      is_day : o.first ≤ last_day
      is_day = first_is_day o has

      it : begins_on first last o ≡ true → return_period_of its o.first ≡ number
      it k =
          let days = and_parts (nat_le first o.first) (nat_le o.first last) k in
          let low = leb-true first o.first days.0 in
          let high = leb-true o.first last days.1 in
          let grows = return_period_grows its number in
          return_period_only its o.first number is_day (omega arith) (omega arith)

      back : return_period_of its o.first ≡ number → begins_on first last o ≡ true
      back e =
          let days = return_period_is its o.first is_day in
          let low : return_period_first its number ≤ o.first =
          subst (λ n. return_period_first its n ≤ o.first) e days.0 in
          let high : o.first < return_period_end its number =
          subst (λ n. o.first < return_period_end its n) e days.1 in
          let since : nat_le first o.first ≡ true = le-leb first o.first (omega arith) in
          let until : nat_le o.first last ≡ true = le-leb o.first last (omega arith) in
          rw (since, until) refl

  -- the obligations that begin on the days of a quarter are those that begin in it
  pub of_quarter : (quarter : ℕ)
      → filter (begins_on (quarter_start quarter) (quarter_start (quarter + 1) - 1)) owed
      ≡ begun stands name quarter
  of_quarter quarter =
      filter_same (begins_on (quarter_start quarter) (quarter_start (quarter + 1) - 1))
      (begins_in quarter) owed
      (begins_is F941 quarter (quarter_start quarter) (quarter_start (quarter + 1) - 1) refl
      (ap (λ n. month_start n - 1) (omega arith)))
