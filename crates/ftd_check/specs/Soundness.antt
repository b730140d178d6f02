-- When tables are those of a sound state.
use Rattle.std.specs.Prelude.{◌≡◌, ℕ, List, map}
use Rattle.ftd_days.specs.Holidays.{AreFew, YearDays}
use Rattle.ftd_sql.specs.Beginnings.{HasVersion}
use Rattle.ftd_sql.specs.Rows.{AccountRow}
use Rattle.ftd_sql.specs.Standing.{Tables}
use Rattle.ftd_sql.specs.declared.TableName.TheVariants.{Accounts, AddedHolidays, CalendarYears}
use Rattle.ftd_sql.specs.declared.TableName.TheVariants.{ChangedHolidays, Holidays, Metas}
use Rattle.ftd_machine.specs.State.{DayChange, State}
use Rattle.ftd_machine.specs.Sound.{IsSound, year_of_calendar}
use Rattle.ftd_entries.specs.Standing.{StandsFor}
use Rattle.ftd_check.specs.Accounts.{HasBadList, HasUnsound}
use Rattle.ftd_check.specs.Days.{AreSoundDays}
use Rattle.ftd_check.specs.Holidays.{KnowsAll}
use Rattle.ftd_check.specs.Sizes.{AreAllSizes}
use Rattle.ftd_check.specs.Whole.{AreOfAccounts}
use Rattle.ftd_check.specs.declared.soundness.Soundness.{Soundness}
use Rattle.ftd_check.specs.declared.soundness.Soundness.TheVariants as soundness
use Rattle.ftd_check.specs.declared.soundness.Part.{Part}
use Rattle.ftd_check.specs.declared.soundness.Part.TheVariants as part

-- the tables stand for a sound state: one that requests may have led to
abbrev pub StandForSound : Tables → Type 0
StandForSound t = (s : State) × IsSound s × StandsFor t s

-- the tables have these calendars, added holidays and changes of days, which are sound
abbrev pub HaveDays : Tables → List YearDays → List ℕ → List DayChange → Type 0
HaveDays t given added changes =
    AreSoundDays (t CalendarYears) (t Holidays) (t AddedHolidays) (t ChangedHolidays) given added
    changes

-- the calendars of these years are given in the tables, and these are the holidays in force
pub record AreInForce (t : Tables) (given holidays : List ℕ) : Type 0 where
  pub calendars : List YearDays
  pub added : List ℕ
  pub changes : List DayChange
  pub days : HaveDays t calendars added changes
  pub years : given ≡ map year_of_calendar calendars
  pub few : AreFew holidays
  pub known : KnowsAll holidays t

-- the name of the account of a row
abbrev pub row_name : AccountRow → List ℕ
row_name r = r.name

-- the part shows that no sound state has the tables: they have no sound days; or the list of no
-- accounts; or of this account in the list not what requests may have entered and what follows from
-- that; or a row of no account in the list
abbrev pub ShowsUnsound : Part → Tables → Type 0
ShowsUnsound part.Holidays t =
    (given : List YearDays) (added : List ℕ) (changes : List DayChange)
    → HaveDays t given added changes → ⊥
ShowsUnsound part.Accounts t = HasBadList t
ShowsUnsound (part.Account name) t =
    (given : List ℕ) × (holidays : List ℕ) × AreInForce t given holidays
    × HasUnsound t given holidays name
ShowsUnsound part.Rows t = AreOfAccounts t (map row_name (t Accounts)) → ⊥

-- what is found of the tables, where they are marked as those of the latest version: that they stand
-- for a sound state, and how many rows they have; or that they stand for none, and a part that shows
-- it
abbrev pub Finds : Soundness → Tables → Type 0
Finds (soundness.Sound sizes) t =
    HasVersion (t Metas) 3 → StandForSound t × AreAllSizes sizes t
Finds (soundness.Unsound p) t = (StandForSound t → ⊥) × ShowsUnsound p t
