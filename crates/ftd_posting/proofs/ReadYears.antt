-- The holidays that were read of a year and of the years beside it.
use Rattle.std.proofs.Common.{◌≡◌, ℕ, ◌+◌, ◌-◌, ◌≤◌, ◌⊎◌, Bool, true, false, List, [], Global, inl}
use Rattle.std.proofs.Common.{inr, refl, sym, ap, ◌∙◌, subst, arith}
use Rattle.std.specs.Prelude.{◌==◌, ◌||◌, ◌&&◌}
use Rattle.std.proofs.Math.Bool.{or-false}
use Rattle.ftd_days.specs.Calendar.{year_of}
use Rattle.ftd_days.specs.Business.{is_holiday}
use Rattle.ftd_days.proofs.Years.{eq_same, eq_not, same_or_not}
use Rattle.ftd_sql.specs.Standing.{Tables}
use Rattle.ftd_store.specs.Finds.{HasCalendar}
use Rattle.ftd_store.specs.Holidays.{AddsYear, AddsIfGiven, is_holiday_in}
use Rattle.ftd_machine.specs.State.{State, holidays}
use Rattle.ftd_machine.specs.Sound.{IsSound}
use Rattle.ftd_entries.specs.Standing.{KeepsDays}
use Rattle.ftd_entries.proofs.YearHolidays.{holiday_known, holiday_unknown}
use Rattle.ftd_posting.specs.Known.{KnowsHolidays}

-- ---- one year

-- the holidays of a year are added to others, as each state keeps them whose days the tables have
abbrev pub AddsKeptYear : ℕ → List ℕ → List ℕ → Tables → Type 0
AddsKeptYear year old new t = (s : State) → KeepsDays t s → IsSound s → (day : ℕ)
    → is_holiday new day
    ≡ (is_holiday old day || ((year_of day == year) && is_holiday (holidays s) day))

-- a year whose calendar was not given has no holidays
none_kept : (year : ℕ) (old : List ℕ) (t : Tables) → HasCalendar year false t
    → AddsKeptYear year old old t
none_kept year old t finds s keeps sound day =
    let off : ((year_of day == year) && is_holiday (holidays s) day) ≡ false =
    elim (same_or_not (year_of day) year) [
      | inl its ↦ ap (λ b. b && is_holiday (holidays s) day) (eq_same (year_of day) year its)
          ∙ holiday_unknown t s keeps sound Global year day finds its
      | inr other ↦ ap (λ b. b && is_holiday (holidays s) day) (eq_not (year_of day) year other)
    ] in
    sym (ap (λ b. is_holiday old day || b) off ∙ or-false (is_holiday old day))

-- another one those that it was given with, or that were added, and that no change took back
both_kept : (year : ℕ) (old new : List ℕ) (t : Tables) → AddsYear year old new t
    → AddsKeptYear year old new t
both_kept year old new t adds s keeps sound day =
    let here : is_holiday_in adds.given.items adds.added.items adds.changes.items day
    ≡ ((year_of day == year) && is_holiday (holidays s) day) =
    elim (same_or_not (year_of day) year) [
      | inl its ↦ sym (ap (λ b. b && is_holiday (holidays s) day) (eq_same (year_of day) year its)
          ∙ holiday_known t s keeps sound adds.given adds.added adds.changes year day
          adds.is_given adds.are_added adds.are_changes its)
      | inr other ↦ adds.elsewhere day other
          ∙ sym (ap (λ b. b && is_holiday (holidays s) day) (eq_not (year_of day) year other))
    ] in
    adds.same day ∙ ap (λ b. is_holiday old day || b) here

-- so the holidays of a year, given or not, were added as they are kept
pub adds_kept : (year : ℕ) (old new : List ℕ) (given : Bool) (t : Tables)
    → AddsIfGiven year old new given t → AddsKeptYear year old new t
adds_kept year old new true t adds = both_kept year old new t adds
adds_kept year old new false t adds = subst (λ (hs : List ℕ). AddsKeptYear year old hs t)
    (sym adds.1) (none_kept year old t adds.0)

-- ---- three years

abbrev together : Bool → Bool → Bool → Bool → Bool
together before here after b = ((before && b) || (here && b)) || (after && b)

first_one : (b : Bool) → together true false false b ≡ b
first_one true = refl
first_one false = refl

second_one : (b : Bool) → together false true false b ≡ b
second_one true = refl
second_one false = refl

third_one : (b : Bool) → together false false true b ≡ b
third_one true = refl
third_one false = refl

-- a number is one of the three about another
one_of_three : (year y : ℕ) → 1 ≤ year → year ≤ y + 1 → y ≤ year + 1 → (y ≡ year - 1)
    ⊎ ((y ≡ year) ⊎ (y ≡ year + 1))
one_of_three year y some low high =
    elim (same_or_not y (year - 1)) [
      | inl before ↦ inl before
      | inr later ↦ elim (same_or_not y year) [
        | inl here ↦ inr (inl here)
        | inr apart ↦ inr (inr (omega arith))
      ]
    ]

in_three : (year y : ℕ) (b : Bool) → 1 ≤ year → year ≤ y + 1 → y ≤ year + 1
    → together (y == (year - 1)) (y == year) (y == (year + 1)) b ≡ b
in_three year y b some low high =
    elim (one_of_three year y some low high) [
      | inl before ↦
          ap (λ e. together e (y == year) (y == (year + 1)) b) (eq_same y (year - 1) before)
          ∙ (ap (λ e. together true e (y == (year + 1)) b) (eq_not y year (λ e. omega arith))
          ∙ (ap (λ e. together true false e b) (eq_not y (year + 1) (λ e. omega arith))
          ∙ first_one b))
      | inr (inl here) ↦
          ap (λ e. together e (y == year) (y == (year + 1)) b)
          (eq_not y (year - 1) (λ e. omega arith))
          ∙ (ap (λ e. together false e (y == (year + 1)) b) (eq_same y year here)
          ∙ (ap (λ e. together false true e b) (eq_not y (year + 1) (λ e. omega arith))
          ∙ second_one b))
      | inr (inr after) ↦
          ap (λ e. together e (y == year) (y == (year + 1)) b)
          (eq_not y (year - 1) (λ e. omega arith))
          ∙ (ap (λ e. together false e (y == (year + 1)) b) (eq_not y year (λ e. omega arith))
          ∙ (ap (λ e. together false false e b) (eq_same y (year + 1) after) ∙ third_one b))
    ]

-- the holidays of the three years about a day are known
pub three_years : (about year : ℕ) (none before here after : List ℕ) (t : Tables)
    → year ≡ year_of about → 1 ≤ year → none ≡ []
    → AddsKeptYear (year - 1) none before t → AddsKeptYear year before here t
    → AddsKeptYear (year + 1) here after t → KnowsHolidays about after t
three_years about year none before here after t is some empty one two three s keeps sound day low
    high =
    let b = is_holiday (holidays s) day in
    let y = year_of day in
    let first : is_holiday before day ≡ ((y == (year - 1)) && b) = one s keeps sound day
    ∙ ap (λ hs. is_holiday hs day || ((y == (year - 1)) && b)) empty in
    let second : is_holiday here day ≡ (((y == (year - 1)) && b) || ((y == year) && b)) =
    two s keeps sound day ∙ ap (λ x. x || ((y == year) && b)) first in
    let third : is_holiday after day ≡ together (y == (year - 1)) (y == year) (y == (year + 1)) b =
    three s keeps sound day ∙ ap (λ x. x || ((y == (year + 1)) && b)) second in
    third ∙ in_three year y b some (omega arith) (omega arith)
