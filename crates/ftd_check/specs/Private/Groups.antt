-- What is read of the parts of one account.
use Rattle.std.specs.Prelude.{◌≡◌, ℕ, List, [], ◌∷◌, map, filter, Option, None, Some}
use Rattle.std.specs.Global.{Vec}
use Rattle.ftd_sql.specs.Standing.{Tables}
use Rattle.ftd_sql.specs.Tests.{is_form_of, is_account_correction_of, is_reported_of}
use Rattle.ftd_sql.specs.Tests.{is_reported_year_of, is_correction_of, is_year_correction_of}
use Rattle.ftd_sql.specs.Tests.{is_run_of, is_payment_of}
use Rattle.ftd_sql.specs.declared.TableName.TheVariants.{Forms, CorrectedAccounts}
use Rattle.ftd_sql.specs.declared.TableName.TheVariants.{ReportedQuarters, ReportedYears}
use Rattle.ftd_sql.specs.declared.TableName.TheVariants.{CorrectedQuarters, CorrectedYears}
use Rattle.ftd_sql.specs.declared.TableName.TheVariants.{Runs, Payments}
use Rattle.ftd_store.specs.Rows.{form_row}
use Rattle.ftd_store.specs.declared.account_cells.Account.{Account}
use Rattle.ftd_entries.specs.Standing.{quarter_entry, year_entry, run_entry, payment_entry}
use Rattle.ftd_entries.specs.Standing.{with_earlier, correction_entry, year_correction_entry}
use Rattle.ftd_entries.specs.Standing.{account_correction_entry}
use Rattle.ftd_sound.specs.Entered.{entry_of, entries_in}
use Rattle.ftd_sound.specs.declared.own.Own.{Own}
use Rattle.ftd_check.specs.OwnRows.{AreUnsoundRows}
use Rattle.ftd_check.specs.Parts.{HasEntered, move_to}
use Rattle.ftd_check.specs.declared.parts.Begun.{Begun}
use Rattle.ftd_check.specs.declared.parts.Posted.{Posted}
use Rattle.ftd_check.specs.declared.parts.Quarters.{Quarters}
use Rattle.ftd_check.specs.declared.parts.Years.{Years}

-- the rows are those of the account, which begins so
pub record HasBegun (t : Tables) (name : List ℕ) (account : Account) (begun : Begun) : Type 0 where
  pub start : begun.account.start ≡ account.start
  pub carried : begun.account.carried ≡ account.carried
  pub form : filter (is_form_of name) (t Forms) ≡ form_row name begun.account.form ∷ []
  pub moves : filter (is_account_correction_of name) (t CorrectedAccounts)
      ≡ map account_correction_entry (with_earlier [] (map (move_to name) begun.moves.items))

-- the rows are those of the totals of quarters
pub record HasQuarters (t : Tables) (name : List ℕ) (quarters : Quarters) : Type 0 where
  pub reported : filter (is_reported_of name) (t ReportedQuarters)
      ≡ map quarter_entry (map (entry_of name) quarters.reported.items)
  pub corrected : filter (is_correction_of name) (t CorrectedQuarters)
      ≡ map correction_entry (with_earlier [] (map (entry_of name) quarters.corrected.items))

-- of the totals of years
pub record HasYears (t : Tables) (name : List ℕ) (years : Years) : Type 0 where
  pub reported : filter (is_reported_year_of name) (t ReportedYears)
      ≡ map year_entry (map (entry_of name) years.reported.items)
  pub corrected : filter (is_year_correction_of name) (t CorrectedYears)
      ≡ map year_correction_entry (with_earlier [] (map (entry_of name) years.corrected.items))

-- of the runs and of the payments
pub record HasPosted (t : Tables) (name : List ℕ) (posted : Posted) : Type 0 where
  pub runs : filter (is_run_of name) (t Runs)
      ≡ map run_entry (map (entry_of name) posted.runs.items)
  pub payments : filter (is_payment_of name) (t Payments)
      ≡ map payment_entry (map (entry_of name) posted.payments.items)

-- ---- each is read, or None, where the rows are those of no entries that requests may have entered

abbrev pub ReadsBegun : List ℕ → Account → Option Begun → Tables → Type 0
ReadsBegun name account None t = AreUnsoundRows name t
ReadsBegun name account (Some begun) t = HasBegun t name account begun

abbrev pub ReadsQuarters : List ℕ → Option Quarters → Tables → Type 0
ReadsQuarters name None t = AreUnsoundRows name t
ReadsQuarters name (Some quarters) t = HasQuarters t name quarters

abbrev pub ReadsYears : List ℕ → Option Years → Tables → Type 0
ReadsYears name None t = AreUnsoundRows name t
ReadsYears name (Some years) t = HasYears t name years

abbrev pub ReadsPosted : List ℕ → Option Posted → Tables → Type 0
ReadsPosted name None t = AreUnsoundRows name t
ReadsPosted name (Some posted) t = HasPosted t name posted

-- ---- taken together

-- what is kept of an account, by its parts
abbrev pub own_of : Vec ℕ → Begun → Quarters → Years → Posted → Own
own_of open_years begun quarters years posted = record {
  account = begun.account;
  moves = begun.moves;
  reported = quarters.reported;
  corrected = quarters.corrected;
  reported_years = years.reported;
  corrected_years = years.corrected;
  open_years = open_years;
  runs = posted.runs;
  payments = posted.payments;
}

-- the rows that were entered are those of what is kept of the account, which begins so and has
-- these open years
pub record HasOwn (t : Tables) (name : List ℕ) (account : Account) (open_years : List ℕ)
    (own : Own) : Type 0 where
  pub entered : HasEntered t name (entries_in name own)
  pub start : own.account.start ≡ account.start
  pub carried : own.account.carried ≡ account.carried
  pub open_years_are : own.open_years.items ≡ open_years

abbrev pub ReadsEntered : List ℕ → Account → List ℕ → Option Own → Tables → Type 0
ReadsEntered name account open_years None t = AreUnsoundRows name t
ReadsEntered name account open_years (Some own) t = HasOwn t name account open_years own
