-- The holidays that were read, year by year.
use Rattle.std.proofs.Common.{◌≡◌, ℕ, ◌+◌, ◌≤◌, ◌<◌, Bool, true, false, List, [], Global, inl}
use Rattle.std.proofs.Common.{inr, sym, ap, ◌∙◌, subst, arith}
use Rattle.std.specs.Prelude.{◌==◌, ◌||◌, ◌&&◌}
use Rattle.std.proofs.Math.Bool.{or-false}
use Rattle.ftd_days.specs.Calendar.{year_of}
use Rattle.ftd_days.specs.Business.{is_holiday}
use Rattle.ftd_days.specs.declared.limits.TheConstants.{FIRST_YEAR, LAST_YEAR}
use Rattle.ftd_days.proofs.Years.{eq_same, eq_not, same_or_not}
use Rattle.ftd_sql.specs.Standing.{Tables}
use Rattle.ftd_store.specs.Finds.{HasCalendar}
use Rattle.ftd_store.specs.Holidays.{AddsYear, AddsIfGiven, is_holiday_in}
use Rattle.ftd_machine.specs.State.{State, holidays}
use Rattle.ftd_machine.specs.Sound.{IsSound}
use Rattle.ftd_entries.specs.Standing.{KeepsDays}
use Rattle.ftd_entries.proofs.YearHolidays.{holiday_known, holiday_unknown}
use Rattle.ftd_check.specs.Holidays.{KnowsAll}

-- the holidays of a year are added to others, as each state keeps them whose days the tables have
abbrev pub AddsKeptYear : ℕ → List ℕ → List ℕ → Tables → Type 0
AddsKeptYear year old new t = (s : State) → KeepsDays t s → IsSound s → (day : ℕ)
    → is_holiday new day
    ≡ (is_holiday old day || ((year_of day == year) && is_holiday (holidays s) day))

-- a year whose calendar was not given has no holidays
none_kept : (year : ℕ) (old : List ℕ) (t : Tables) → HasCalendar year false t
    → AddsKeptYear year old old t
none_kept year old t finds s keeps sound day =
    let off : ((year_of day == year) && is_holiday (holidays s) day) ≡ false =
    elim (same_or_not (year_of day) year) [
      | inl its ↦ ap (λ b. b && is_holiday (holidays s) day) (eq_same (year_of day) year its)
          ∙ holiday_unknown t s keeps sound Global year day finds its
      | inr other ↦ ap (λ b. b && is_holiday (holidays s) day) (eq_not (year_of day) year other)
    ] in
    sym (ap (λ b. is_holiday old day || b) off ∙ or-false (is_holiday old day))

-- another one those that it was given with, or that were added, and that no change took back
both_kept : (year : ℕ) (old new : List ℕ) (t : Tables) → AddsYear year old new t
    → AddsKeptYear year old new t
both_kept year old new t adds s keeps sound day =
    let here : is_holiday_in adds.given.items adds.added.items adds.changes.items day
    ≡ ((year_of day == year) && is_holiday (holidays s) day) =
    elim (same_or_not (year_of day) year) [
      | inl its ↦ sym (ap (λ b. b && is_holiday (holidays s) day) (eq_same (year_of day) year its)
          ∙ holiday_known t s keeps sound adds.given adds.added adds.changes year day
          adds.is_given adds.are_added adds.are_changes its)
      | inr other ↦ adds.elsewhere day other
          ∙ sym (ap (λ b. b && is_holiday (holidays s) day) (eq_not (year_of day) year other))
    ] in
    adds.same day ∙ ap (λ b. is_holiday old day || b) here

-- so the holidays of a year, given or not, were added as they are kept
adds_kept : (year : ℕ) (old new : List ℕ) (given : Bool) (t : Tables)
    → AddsIfGiven year old new given t → AddsKeptYear year old new t
adds_kept year old new true t adds = both_kept year old new t adds
adds_kept year old new false t adds = subst (λ (hs : List ℕ). AddsKeptYear year old hs t)
    (sym adds.1) (none_kept year old t adds.0)

-- ---- year by year

module _ (year : ℕ) (old new : List ℕ) (t : Tables) (adds : AddsKeptYear year old new t) (s : State)
    (keeps : KeepsDays t s) (sound : IsSound s) (day : ℕ) where
  -- a day of the year is a holiday if it is kept so
  adds_here : year_of day ≡ year → is_holiday old day ≡ false
      → is_holiday new day ≡ is_holiday (holidays s) day
  adds_here its none =
      adds s keeps sound day
      ∙ ap (λ b. b || ((year_of day == year) && is_holiday (holidays s) day)) none
      ∙ ap (λ b. b && is_holiday (holidays s) day) (eq_same (year_of day) year its)

  -- another one is a holiday if it was one before
  adds_no_other : (year_of day ≡ year → ⊥) → is_holiday new day ≡ is_holiday old day
  adds_no_other other =
      adds s keeps sound day
      ∙ ap (λ b. is_holiday old day || (b && is_holiday (holidays s) day))
      (eq_not (year_of day) year other)
      ∙ or-false (is_holiday old day)

-- the holidays of the years before one are those that are kept, and none are of later years
pub record KnowsBefore (year : ℕ) (read : List ℕ) (t : Tables) : Type 0 where
  pub known : (s : State) → KeepsDays t s → IsSound s → (day : ℕ) → FIRST_YEAR ≤ year_of day
      → year_of day < year → is_holiday read day ≡ is_holiday (holidays s) day
  pub later : (s : State) → KeepsDays t s → IsSound s → (day : ℕ) → year ≤ year_of day
      → is_holiday read day ≡ false

pub first_known : (none new : List ℕ) (given : Bool) (t : Tables) → none ≡ []
    → AddsIfGiven FIRST_YEAR none new given t → KnowsBefore (FIRST_YEAR + 1) new t
first_known none new given t empty adds =
    let kept = adds_kept FIRST_YEAR none new given t adds in
    let nothing : (day : ℕ) → is_holiday none day ≡ false =
    λ day. ap (λ (hs : List ℕ). is_holiday hs day) empty in
    record {
      known = λ s keeps sound day from to.
          adds_here FIRST_YEAR none new t kept s keeps sound day (omega arith) (nothing day);
      later = λ s keeps sound day from.
          adds_no_other FIRST_YEAR none new t kept s keeps sound day (λ same. omega arith)
          ∙ nothing day;
    }

pub one_more_known : (year : ℕ) (old new : List ℕ) (given : Bool) (t : Tables)
    → KnowsBefore year old t → AddsIfGiven year old new given t → KnowsBefore (year + 1) new t
one_more_known year old new given t before adds =
    let kept = adds_kept year old new given t adds in
    record {
      known = λ s keeps sound day from to.
          elim (same_or_not (year_of day) year) [
            | inl its ↦ adds_here year old new t kept s keeps sound day its
                (before.later s keeps sound day (omega arith))
            | inr other ↦ adds_no_other year old new t kept s keeps sound day other
                ∙ before.known s keeps sound day from (omega arith)
          ];
      later = λ s keeps sound day from.
          adds_no_other year old new t kept s keeps sound day (λ same. omega arith)
          ∙ before.later s keeps sound day (omega arith);
    }

pub all_known : (year : ℕ) (read : List ℕ) (t : Tables) → LAST_YEAR + 1 ≤ year
    → KnowsBefore year read t → KnowsAll read t
all_known year read t end before s keeps sound day from to =
    before.known s keeps sound day from (omega arith)
