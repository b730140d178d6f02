-- When the tables are those of a sound state, account by account.
use Rattle.std.specs.Prelude.{◌≡◌, ℕ, true, List, Some}
use Rattle.ftd_rules.specs.Accounts.{is_account_name}
use Rattle.ftd_rules.specs.Lists.{Has}
use Rattle.ftd_sql.specs.Rows.{FormRow, ReportedQuarterRow, ReportedYearRow, YearRow, RunRow}
use Rattle.ftd_sql.specs.Rows.{PaymentRow, ObligationRow, CorrectedQuarterRow, CorrectedYearRow}
use Rattle.ftd_sql.specs.Rows.{CorrectedAccountRow}
use Rattle.ftd_sql.specs.Standing.{Tables}
use Rattle.ftd_sql.specs.declared.TableName.TheVariants.{Forms, CorrectedAccounts}
use Rattle.ftd_sql.specs.declared.TableName.TheVariants.{ReportedQuarters, ReportedYears}
use Rattle.ftd_sql.specs.declared.TableName.TheVariants.{CorrectedQuarters, CorrectedYears}
use Rattle.ftd_sql.specs.declared.TableName.TheVariants.{Years, Runs, Payments, Obligations}
use Rattle.ftd_machine.specs.State.{Enrolled, Entries}
use Rattle.ftd_sound.specs.Own.{IsOwnSound}
use Rattle.ftd_check.specs.Parts.{HasEntered, HasSettled}

-- the tables have the rows of sound entries of the account, where the calendars of these years are
-- given, and what follows from them with these holidays
pub record IsSoundAccount (t : Tables) (given holidays : List ℕ) (e : Enrolled) : Type 0 where
  pub name : is_account_name e.name ≡ true
  pub own : Entries
  pub entered : HasEntered t e.name own
  pub enrolled : own.enrolled ≡ Some e.account
  pub sound : IsOwnSound given own
  pub settled : HasSettled t e.name own holidays

-- each row of an account is one of these accounts
pub record AreOfAccounts (t : Tables) (names : List (List ℕ)) : Type 0 where
  pub forms : (r : FormRow) → Has (t Forms) r → Has names r.account
  pub moves : (r : CorrectedAccountRow) → Has (t CorrectedAccounts) r → Has names r.account
  pub reported : (r : ReportedQuarterRow) → Has (t ReportedQuarters) r → Has names r.account
  pub reported_years : (r : ReportedYearRow) → Has (t ReportedYears) r → Has names r.account
  pub corrected : (r : CorrectedQuarterRow) → Has (t CorrectedQuarters) r → Has names r.account
  pub corrected_years : (r : CorrectedYearRow) → Has (t CorrectedYears) r → Has names r.account
  pub years : (r : YearRow) → Has (t Years) r → Has names r.account
  pub runs : (r : RunRow) → Has (t Runs) r → Has names r.account
  pub payments : (r : PaymentRow) → Has (t Payments) r → Has names r.account
  pub obligations : (r : ObligationRow) → Has (t Obligations) r → Has names r.account

-- an account, and that it is such a one
abbrev pub SoundAccount : Tables → List ℕ → List ℕ → Type 0
SoundAccount t given holidays = (e : Enrolled) × IsSoundAccount t given holidays e

abbrev pub account_in : {t : Tables} {given holidays : List ℕ} → SoundAccount t given holidays
    → Enrolled
account_in p = p.0

abbrev pub name_in : {t : Tables} {given holidays : List ℕ} → SoundAccount t given holidays
    → List ℕ
name_in p = p.0.name
