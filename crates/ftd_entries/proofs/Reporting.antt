-- Figures that are reported: what is answered, and the tables stand for the machine's next state.
use Rattle.std.proofs.Common.{◌≡◌, ◌∙◌, refl, ℕ, List, [], ◌∷◌, Option, None, Some}
use Rattle.std.proofs.Common.{Ok}
use Rattle.ftd_days.specs.declared.cents.Cents.{Cents}
use Rattle.ftd_sql.specs.Standing.{Tables}
use Rattle.ftd_store.specs.Changes.{with_reported, with_reported_year}
use Rattle.ftd_store.specs.Finds.{FindsReported, FindsReportedYear}
use Rattle.ftd_machine.specs.declared.entries.Account.{Account}
use Rattle.ftd_machine.specs.declared.requests.Request.TheVariants.{Enter}
use Rattle.ftd_machine.specs.declared.requests.Entry.TheVariants as entry
use Rattle.ftd_machine.specs.declared.entries.ReturnPeriod.{ReturnPeriod}
use Rattle.ftd_machine.specs.declared.entries.ReturnPeriod.TheVariants.{Quarter, Year}
use Rattle.ftd_machine.specs.declared.replies.Reply.TheVariants.{Done}
use Rattle.ftd_machine.specs.State.{State, Entry, entries_of, is_of, kept_at}
use Rattle.ftd_machine.specs.Checks.{Answer, first_of}
use Rattle.ftd_machine.specs.Requests.{report_checks}
use Rattle.ftd_machine.specs.Step.{Step, with_entry}
use Rattle.ftd_machine.specs.Sound.{IsSound}
use Rattle.ftd_machine.proofs.Deciding.{decided, passed}
use Rattle.ftd_entries.specs.Standing.{StandsFor, quarter_entry, year_entry}
use Rattle.ftd_entries.specs.Known.{FindsTotal, KnowsAccount, with_total_row}
use Rattle.ftd_entries.proofs.Reading.{Both}
use Rattle.ftd_entries.proofs.Kept.{kept_reported, kept_reported_year}
use Rattle.ftd_entries.proofs.Entered.{entered, row_more}
use Rattle.ftd_entries.proofs.Growing.{figures_more, settled_grows}

-- ---- of a quarter

module _ (name : List ℕ) (quarter : ℕ) (cents : Cents) where
  abbrev Next : State → State
  Next s = record s { reported = with_entry s.reported name quarter cents }

  abbrev Knows : Option Account × Option Cents → Tables → Type 0
  Knows = Both (KnowsAccount name) (FindsReported name quarter)

  -- the checks of what is kept are those of what was read
  checks_are : (known : Option Account × Option Cents) (t : Tables) (s : State) → StandsFor t s
      → Knows known t
      → first_of (report_checks name (Quarter quarter) cents (entries_of s name).account
      (kept_at quarter (entries_of s name).reported)) ≡ first_of
      (report_checks name (Quarter quarter) cents known.0 known.1)
  checks_are known t s stands knows =
      rw (knows.0 s stands, kept_reported name t s stands quarter known.1 knows.1) refl

  reported_stands : (t : Tables) (s : State) → StandsFor t s
      → StandsFor (with_reported name quarter cents t) (Next s)
  reported_stands t s stands =
      let more : Entry Cents = record { name = name; key = quarter; content = cents } in
      record {
        entries = (let e = stands.entries in entered e.meta e.enrolled (record {
          reported = row_more quarter_entry s.reported more e.figures.reported;
          reported_years = e.figures.reported_years;
          corrected = e.figures.corrected;
          corrected_years = e.figures.corrected_years;
        }) e.days e.paid);
        settled = λ other.
            settled_grows t (with_reported name quarter cents t) s (Next s) other refl refl refl
            (record {
              account = refl;
              open_years = refl;
              runs = refl;
              reported = figures_more (is_of other) s.reported (more ∷ [])
                  (entries_of s other).corrected;
              reported_years = λ figure has. has;
            }) (stands.settled other);
      }

  -- a check decides
  quarter_decided : (known : Option Account × Option Cents) (answer : Answer)
      → first_of (report_checks name (Quarter quarter) cents known.0 known.1) ≡ Some answer
      → (t : Tables) (s : State) → StandsFor t s → IsSound s → Knows known t
      → Step s (Enter (entry.Total name (Quarter quarter) cents)) answer s
  quarter_decided known answer is t s stands sound knows = decided _ s answer _
      (checks_are known t s stands knows ∙ is)

  -- all checks pass
  quarter_done : (known : Option Account × Option Cents)
      → first_of (report_checks name (Quarter quarter) cents known.0 known.1) ≡ None
      → (t : Tables) (s : State) → StandsFor t s → IsSound s → Knows known t
      → (next : State) × Step s (Enter (entry.Total name (Quarter quarter) cents)) (Ok Done) next
      × StandsFor (with_reported name quarter cents t) next
  quarter_done known is t s stands sound knows = (
    Next s,
    passed _ s (Ok Done) (Next s) _ (checks_are known t s stands knows ∙ is)
        (refl, refl),
    reported_stands t s stands,
  )

-- ---- of a year

module _ (name : List ℕ) (year : ℕ) (cents : Cents) where
  abbrev NextYear : State → State
  NextYear s = record s { reported_years = with_entry s.reported_years name year cents }

  abbrev KnowsYears : Option Account × Option Cents → Tables → Type 0
  KnowsYears = Both (KnowsAccount name) (FindsReportedYear name year)

  year_checks_are : (known : Option Account × Option Cents) (t : Tables) (s : State) → StandsFor t s
      → KnowsYears known t
      → first_of (report_checks name (Year year) cents (entries_of s name).account
      (kept_at year (entries_of s name).reported_years)) ≡ first_of
      (report_checks name (Year year) cents known.0 known.1)
  year_checks_are known t s stands knows =
      rw (knows.0 s stands, kept_reported_year name t s stands year known.1 knows.1) refl

  reported_year_stands : (t : Tables) (s : State) → StandsFor t s
      → StandsFor (with_reported_year name year cents t) (NextYear s)
  reported_year_stands t s stands =
      let more : Entry Cents = record { name = name; key = year; content = cents } in
      record {
        entries = (let e = stands.entries in entered e.meta e.enrolled (record {
          reported = e.figures.reported;
          reported_years = row_more year_entry s.reported_years more e.figures.reported_years;
          corrected = e.figures.corrected;
          corrected_years = e.figures.corrected_years;
        }) e.days e.paid);
        settled = λ other.
            settled_grows t (with_reported_year name year cents t) s (NextYear s) other refl refl
            refl
            (record {
              account = refl;
              open_years = refl;
              runs = refl;
              reported = λ figure has. has;
              reported_years = figures_more (is_of other) s.reported_years (more ∷ [])
                  (entries_of s other).corrected_years;
            }) (stands.settled other);
      }

  year_decided : (known : Option Account × Option Cents) (answer : Answer)
      → first_of (report_checks name (Year year) cents known.0 known.1) ≡ Some answer
      → (t : Tables) (s : State) → StandsFor t s → IsSound s → KnowsYears known t
      → Step s (Enter (entry.Total name (Year year) cents)) answer s
  year_decided known answer is t s stands sound knows = decided _ s answer _
      (year_checks_are known t s stands knows ∙ is)

  year_done : (known : Option Account × Option Cents)
      → first_of (report_checks name (Year year) cents known.0 known.1) ≡ None
      → (t : Tables) (s : State) → StandsFor t s → IsSound s → KnowsYears known t
      → (next : State) × Step s (Enter (entry.Total name (Year year) cents)) (Ok Done) next
      × StandsFor (with_reported_year name year cents t) next
  year_done known is t s stands sound knows = (
    NextYear s,
    passed _ s (Ok Done) (NextYear s) _ (year_checks_are known t s stands knows ∙ is)
        (refl, refl),
    reported_year_stands t s stands,
  )

-- ---- of a quarter or a year

-- a check decides
pub report_decided : (name : List ℕ) (period : ReturnPeriod) (cents : Cents)
    (known : Option Account × Option Cents) (answer : Answer)
    → first_of (report_checks name period cents known.0 known.1) ≡ Some answer
    → (t : Tables) (s : State) → StandsFor t s → IsSound s
    → Both (KnowsAccount name) (FindsTotal name period) known t
    → Step s (Enter (entry.Total name period cents)) answer s
report_decided name (Quarter quarter) cents = quarter_decided name quarter cents
report_decided name (Year year) cents = year_decided name year cents

-- all checks pass
pub report_done : (name : List ℕ) (period : ReturnPeriod) (cents : Cents)
    (known : Option Account × Option Cents)
    → first_of (report_checks name period cents known.0 known.1) ≡ None
    → (t : Tables) (s : State) → StandsFor t s → IsSound s
    → Both (KnowsAccount name) (FindsTotal name period) known t
    → (next : State) × Step s (Enter (entry.Total name period cents)) (Ok Done) next
    × StandsFor (with_total_row name period cents t) next
report_done name (Quarter quarter) cents = quarter_done name quarter cents
report_done name (Year year) cents = year_done name year cents
