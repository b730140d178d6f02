-- What the rows tell of an account, in the machine's words.
use Rattle.std.specs.Prelude.{◌≡◌, ℕ, Bool, List, map, Option, None, Some}
use Rattle.ftd_days.specs.declared.cents.Cents.{Cents}
use Rattle.ftd_rules.specs.declared.Form.{Form}
use Rattle.ftd_rules.specs.declared.YearLine.{YearLine}
use Rattle.ftd_sql.specs.Standing.{Tables}
use Rattle.ftd_store.specs.declared.account_cells.Account.{Account as StoredAccount}
use Rattle.ftd_store.specs.declared.correction_cells.AccountCorrection.{AccountCorrection}
use Rattle.ftd_store.specs.declared.correction_cells.Correction.{Correction}
use Rattle.ftd_store.specs.Changes.{with_account, with_form, with_reported, with_reported_year}
use Rattle.ftd_store.specs.Finds.{FindsForm, FindsReported, FindsReportedYear}
use Rattle.ftd_machine.specs.declared.entries.Account.{Account}
use Rattle.ftd_machine.specs.declared.entries.Beginning.{Beginning}
use Rattle.ftd_machine.specs.declared.entries.ReturnPeriod.{ReturnPeriod}
use Rattle.ftd_machine.specs.declared.entries.ReturnPeriod.TheVariants.{Quarter, Year}
use Rattle.ftd_machine.specs.State.{State, entries_of, is_open, enrolled_in, all_at}
use Rattle.ftd_machine.specs.State.{in_force_at}
use Rattle.ftd_entries.specs.Standing.{StandsFor, KeepsFigures}

-- the account that has these rows, if it has both
abbrev pub joined : Option StoredAccount → Option Form → Option Account
joined (Some a) (Some form) = Some (record { start = a.start; carried = a.carried; form = form })
joined (Some a) None = None
joined None form = None

-- the account is what it was enrolled as in each state for which the tables stand
abbrev pub KnowsEnrolled : List ℕ → Option Account → Tables → Type 0
KnowsEnrolled name found t = (s : State) → StandsFor t s → enrolled_in s name ≡ found

-- the account in force is what each state keeps for which the tables stand
abbrev pub KnowsAccount : List ℕ → Option Account → Tables → Type 0
KnowsAccount name found t = (s : State) → StandsFor t s → (entries_of s name).account ≡ found

-- the account, and the lines of its open years, are what each state keeps for which the tables
-- stand
abbrev pub KnowsLines : List ℕ → Option Account → List YearLine → Tables → Type 0
KnowsLines name account lines t =
    (s : State) (stands : StandsFor t s)
    → ((entries_of s name).account ≡ account) × (lines ≡ (stands.settled name).lines)

-- the form of an account that is known is that of its row
abbrev pub HasForm : List ℕ → Option Account → Tables → Type 0
HasForm name found t =
    (account : Account) → found ≡ Some account → FindsForm name (Some account.form) t

-- an account more, with its form
abbrev pub with_enrolled : List ℕ → Account → Tables → Tables
with_enrolled name a t =
    with_form name a.form (with_account name (record { start = a.start; carried = a.carried }) t)

-- whether the year of the account is open, as each state keeps it for which the tables stand
abbrev pub KnowsYear : List ℕ → ℕ → Bool → Tables → Type 0
KnowsYear name year there t = (s : State) → StandsFor t s → is_open (entries_of s name) year ≡ there

-- ---- reported totals

-- the total that an account first reported for a quarter or a year is that of its row, if it has
-- one
abbrev pub FindsTotal : List ℕ → ReturnPeriod → Option Cents → Tables → Type 0
FindsTotal name (Quarter quarter) = FindsReported name quarter
FindsTotal name (Year year) = FindsReportedYear name year

-- a reported total more
abbrev pub with_total_row : List ℕ → ReturnPeriod → Cents → Tables → Tables
with_total_row name (Quarter quarter) = with_reported name quarter
with_total_row name (Year year) = with_reported_year name year

-- ---- what was put right

-- the amounts of corrections, and the beginnings of corrections of an account
abbrev pub cents_of : Correction → Cents
cents_of c = c.cents

abbrev pub amounts_of : List Correction → List Cents
amounts_of corrections = map cents_of corrections

abbrev pub begins_at : AccountCorrection → Beginning
begins_at c = record { start = c.account.start; carried = c.account.carried }

abbrev pub beginnings_of : List AccountCorrection → List Beginning
beginnings_of corrections = map begins_at corrections

-- these are the corrections of the account's quarter, or of its year, the first one first, in each
-- state of which the tables have the figures and their corrections
abbrev pub KnowsCorrections : List ℕ → ℕ → List Correction → Tables → Type 0
KnowsCorrections name quarter found t =
    (s : State) → KeepsFigures t s → amounts_of found ≡ all_at quarter (entries_of s name).corrected

abbrev pub KnowsYearCorrections : List ℕ → ℕ → List Correction → Tables → Type 0
KnowsYearCorrections name year found t =
    (s : State) → KeepsFigures t s → amounts_of found
    ≡ all_at year (entries_of s name).corrected_years

-- the account's total of the period that is in force, if one was reported, in each state of which
-- the tables have the totals and their corrections
abbrev pub KnowsFigure : List ℕ → ReturnPeriod → Option Cents → Tables → Type 0
KnowsFigure name period found t =
    (s : State) → KeepsFigures t s → in_force_at (entries_of s name) period ≡ found
