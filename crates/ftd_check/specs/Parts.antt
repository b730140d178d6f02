-- The rows that the tables have of one account, as those of its entries.
use Rattle.std.specs.Prelude.{◌≡◌, ℕ, List, [], ◌∷◌, map, filter, Some}
use Rattle.std.specs.List.Sorted.{IsPermutation}
use Rattle.ftd_rules.specs.Lists.{Has}
use Rattle.ftd_rules.specs.declared.Obligation.{Obligation}
use Rattle.ftd_rules.specs.declared.YearLine.{YearLine}
use Rattle.ftd_rules.specs.Obligations.{AreObligations}
use Rattle.ftd_sql.specs.Standing.{Tables}
use Rattle.ftd_sql.specs.Tests.{is_form_of, is_account_correction_of, is_reported_of}
use Rattle.ftd_sql.specs.Tests.{is_reported_year_of, is_correction_of, is_year_correction_of}
use Rattle.ftd_sql.specs.Tests.{is_year_of, is_run_of, is_payment_of, is_obligation_of_account}
use Rattle.ftd_sql.specs.declared.TableName.TheVariants.{Forms, CorrectedAccounts}
use Rattle.ftd_sql.specs.declared.TableName.TheVariants.{ReportedQuarters, ReportedYears}
use Rattle.ftd_sql.specs.declared.TableName.TheVariants.{CorrectedQuarters, CorrectedYears}
use Rattle.ftd_sql.specs.declared.TableName.TheVariants.{Years, Runs, Payments, Obligations}
use Rattle.ftd_store.specs.Rows.{form_row, year_row, obligation_row}
use Rattle.ftd_machine.specs.declared.entries.Account.{Account}
use Rattle.ftd_machine.specs.declared.entries.Beginning.{Beginning}
use Rattle.ftd_machine.specs.State.{Entries, Entry, Move}
use Rattle.ftd_machine.specs.History.{form_of, live_sums, AreLinesOf}
use Rattle.ftd_entries.specs.Standing.{quarter_entry, year_entry, run_entry, payment_entry}
use Rattle.ftd_entries.specs.Standing.{with_earlier, correction_entry, year_correction_entry}
use Rattle.ftd_entries.specs.Standing.{account_correction_entry}

abbrev pub move_to : List ℕ → Beginning → Move
move_to name beginning = record { name = name; beginning = beginning }

-- each entry is one of the name
abbrev pub AreNamed : {X : Type 0} → List ℕ → List (Entry X) → Type 0
AreNamed {X = X} name entries = (e : Entry X) → Has entries e → e.name ≡ name

-- the entries are all of the account of the name
pub record AreOf (name : List ℕ) (own : Entries) : Type 0 where
  pub reported : AreNamed name own.reported
  pub reported_years : AreNamed name own.reported_years
  pub open_years : AreNamed name own.open_years
  pub runs : AreNamed name own.runs
  pub payments : AreNamed name own.payments
  pub corrected : AreNamed name own.corrected
  pub corrected_years : AreNamed name own.corrected_years

-- the rows that were entered of the account of the name are those of its entries, in the same order
pub record HasEntered (t : Tables) (name : List ℕ) (own : Entries) : Type 0 where
  pub named : AreOf name own
  pub first : Account
  pub enrolled : own.enrolled ≡ Some first
  pub form : filter (is_form_of name) (t Forms) ≡ form_row name first.form ∷ []
  pub moves : filter (is_account_correction_of name) (t CorrectedAccounts)
      ≡ map account_correction_entry (with_earlier [] (map (move_to name) own.moves))
  pub reported : filter (is_reported_of name) (t ReportedQuarters) ≡ map quarter_entry own.reported
  pub reported_years : filter (is_reported_year_of name) (t ReportedYears)
      ≡ map year_entry own.reported_years
  pub corrected : filter (is_correction_of name) (t CorrectedQuarters)
      ≡ map correction_entry (with_earlier [] own.corrected)
  pub corrected_years : filter (is_year_correction_of name) (t CorrectedYears)
      ≡ map year_correction_entry (with_earlier [] own.corrected_years)
  pub runs : filter (is_run_of name) (t Runs) ≡ map run_entry own.runs
  pub payments : filter (is_payment_of name) (t Payments) ≡ map payment_entry own.payments

-- the rows that follow from the entries are those that follow from them, with these holidays
pub record HasSettled (t : Tables) (name : List ℕ) (own : Entries) (holidays : List ℕ) : Type 0
  where
    pub lines : List YearLine
    pub are_lines : AreLinesOf own lines
    pub owed : List Obligation
    pub are_owed : AreObligations (form_of own.account) lines (live_sums own) holidays owed
    pub line_rows : IsPermutation (filter (is_year_of name) (t Years)) (map (year_row name) lines)
    pub owed_rows : IsPermutation (filter (is_obligation_of_account name) (t Obligations))
        (map (obligation_row name) owed)
