-- The liability of a quarter by day: what is answered, and that it is the machine's answer.
use Rattle.std.proofs.Common.{◌≡◌, ℕ, Bool, true, List, Option, None, Some, Ok, Vec, refl, ◌∙◌}
use Rattle.std.proofs.Common.{◌+◌}
use Rattle.std.specs.Prelude.{nat_le}
use Rattle.std.proofs.lemmas.Bool.{leb-true, and_parts}
use Rattle.ftd_days.specs.Calendar.{quarter_year, quarter_start}
use Rattle.ftd_rules.specs.declared.DaySum.{DaySum}
use Rattle.ftd_sql.specs.Standing.{Tables}
use Rattle.ftd_store.specs.Finds.{ListsLiability}
use Rattle.ftd_machine.specs.declared.entries.Account.{Account}
use Rattle.ftd_machine.specs.declared.requests.Question.TheVariants.{ScheduleB}
use Rattle.ftd_machine.specs.declared.requests.Request.TheVariants.{Question}
use Rattle.ftd_machine.specs.Told.{days_answer}
use Rattle.ftd_machine.specs.Checks.{Answer, first_of}
use Rattle.ftd_machine.specs.Limits.{is_between}
use Rattle.ftd_machine.specs.Requests.{schedule_b_checks}
use Rattle.ftd_machine.specs.Sound.{IsSound}
use Rattle.ftd_machine.specs.State.{State, entries_of, is_open}
use Rattle.ftd_machine.specs.Step.{Step}
use Rattle.ftd_machine.proofs.Deciding.{decided, passed}
use Rattle.ftd_machine.proofs.Heads.{Gives, gives_needs, skip_needs}
use Rattle.ftd_entries.specs.Known.{KnowsAccount, KnowsYear}
use Rattle.ftd_entries.specs.Standing.{StandsFor}
use Rattle.ftd_entries.proofs.Reading.{Both}
use Rattle.ftd_entries.proofs.LiableDays.{liable_days, days_rise}

module _ (name : List ℕ) (quarter : ℕ) where
  -- the account, and whether the year of the quarter is open
  abbrev pub Knows : Option Account × Bool → Tables → Type 0
  Knows = Both (KnowsAccount name) (KnowsYear name (quarter_year quarter))

  module _ (known : Option Account × Bool) where
    abbrev pub checks : Option Answer
    checks = first_of (schedule_b_checks name quarter known.0 known.1)

    checks_are : (t : Tables) (s : State) → StandsFor t s → Knows known t
        → first_of (schedule_b_checks name quarter (entries_of s name).account
        (is_open (entries_of s name) (quarter_year quarter))) ≡ checks
    checks_are t s stands knows =
        rw (knows.0 s stands, knows.1 s stands) refl

    -- a check decides
    pub days_decided : (answer : Answer) → checks ≡ Some answer → (t : Tables) (s : State)
        → StandsFor t s → IsSound s → Knows known t
        → Step s (Question (ScheduleB name quarter)) answer s
    days_decided answer is t s stands sound knows = decided _ s answer _
        (checks_are t s stands knows ∙ is)

    -- all checks pass
    pub days_told : {A : Type 0} (last : ℕ) (sums : Vec DaySum A) → last + 1 ≡ quarter_start
        (quarter + 1) → checks ≡ None
        → (t : Tables) (s : State) → StandsFor t s → IsSound s → Knows known t × ListsLiability name
        (quarter_start quarter) last sums t
        → Step s (Question (ScheduleB name quarter)) (days_answer name quarter sums.items) s
    days_told last sums is_last is t s stands sound knows =
        let within : Gives (schedule_b_checks name quarter known.0 known.1)
        (is_between 2001 2098 (quarter_year quarter) ≡ true) =
        skip_needs _ _ _ _ (gives_needs _ _ _) in
        let early = leb-true (quarter_year quarter) 2098
        (and_parts (nat_le 2001 (quarter_year quarter))
        (nat_le (quarter_year quarter) 2098) (within.fact is)).1 in
        passed _ s (days_answer name quarter sums.items) s _ (checks_are t s stands knows.0 ∙ is) (
          refl,
          record {
            listed = sums.items;
            by_day = days_rise name quarter last sums t s stands is_last knows.1;
            all = liable_days name quarter last sums t s stands is_last knows.1 early;
            told = refl;
          },
        )
