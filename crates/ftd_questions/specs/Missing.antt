-- What is kept that a refusal can be mended by: the quarters whose totals are still to be reported,
-- the days that a calendar was given with, and the first year of an account.
use Rattle.std.specs.Prelude.{◌≡◌, ◌&&◌, ℕ, nat_le, Bool, List, [], ◌∷◌, Option, None, Some, Vec}
use Rattle.std.specs.Prelude.{filter, map}
use Rattle.std.specs.Option.{is_none}
use Rattle.ftd_days.specs.Calendar.{year_of}
use Rattle.ftd_days.specs.declared.cents.Cents.{Cents}
use Rattle.ftd_machine.specs.declared.entries.Account.{Account}
use Rattle.ftd_machine.specs.History.{year_of_entry}
use Rattle.ftd_rules.specs.Lookback.{lookback_quarters}
use Rattle.ftd_sql.specs.Standing.{Tables}
use Rattle.ftd_machine.specs.State.{State, Entries, entries_of, kept_at}
use Rattle.ftd_machine.specs.Sound.{IsSound}
use Rattle.ftd_entries.specs.Standing.{StandsFor}

-- the quarter is this one or a later one, and its total is not reported
abbrev pub is_missing_from : Entries → ℕ → ℕ → Bool
is_missing_from own first quarter =
    nat_le first quarter && is_none (kept_at quarter own.reported)

-- the quarters of the year's lookback period, from this one on, whose totals are not reported
abbrev pub missing_from : Entries → ℕ → ℕ → List ℕ
missing_from own first year = filter (is_missing_from own first) (lookback_quarters year)

-- by what was found of each quarter: those from this one on for which there is nothing
abbrev pub is_unfound_from : ℕ → ℕ × Option Cents → Bool
is_unfound_from first found = nat_le first found.0 && is_none found.1

abbrev pub are_missing : ℕ → List (ℕ × Option Cents) → List ℕ
are_missing first found = map (λ (it : ℕ × Option Cents). it.0)
    (filter (is_unfound_from first) found)

-- they are those of each state for which the tables stand
abbrev pub KnowsMissing : {A : Type 0} → List ℕ → ℕ → ℕ → Vec ℕ A → Tables → Type 0
KnowsMissing name first year quarters t =
    (s : State) → StandsFor t s → IsSound s
    → quarters.items ≡ missing_from (entries_of s name) first year

-- the first of an account's years: the first that was opened, and where none is, that of the
-- employer's first day. No year before it can be opened.
abbrev pub first_among : Option Account → List ℕ → Option ℕ
first_among None years = None
first_among (Some account) [] = Some (year_of account.start)
first_among (Some account) (year ∷ years) = Some year

abbrev pub first_year : Entries → Option ℕ
first_year own = first_among own.account (map year_of_entry own.open_years)

-- it is that of each state for which the tables stand
abbrev pub KnowsFirstYear : List ℕ → Option ℕ → Tables → Type 0
KnowsFirstYear name year t =
    (s : State) → StandsFor t s → IsSound s → year ≡ first_year (entries_of s name)
