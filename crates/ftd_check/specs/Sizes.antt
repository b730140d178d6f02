-- How many rows accounts have.
use Rattle.std.specs.Prelude.{◌≡◌, ◌<◌, ◌+◌, ◌^◌, ◌-◌, ℕ, Bool, List, filter, length, min}
use Rattle.std.specs.List.{sum_by}
use Rattle.ftd_sql.specs.Standing.{Tables}
use Rattle.ftd_sql.specs.Tests.{is_form_of, is_account_correction_of, is_reported_of}
use Rattle.ftd_sql.specs.Tests.{is_reported_year_of, is_correction_of, is_year_correction_of}
use Rattle.ftd_sql.specs.Tests.{is_year_of, is_run_of, is_payment_of, is_obligation_of_account}
use Rattle.ftd_sql.specs.declared.TableName.TheVariants.{Forms, CorrectedAccounts}
use Rattle.ftd_sql.specs.declared.TableName.TheVariants.{ReportedQuarters, ReportedYears}
use Rattle.ftd_sql.specs.declared.TableName.TheVariants.{CorrectedQuarters, CorrectedYears}
use Rattle.ftd_sql.specs.declared.TableName.TheVariants.{Years, Runs, Payments, Obligations}
use Rattle.ftd_store.specs.Added.{CountsAll}
use Rattle.ftd_check.specs.declared.own_rows.OwnRows.{OwnRows}
use Rattle.ftd_check.specs.declared.sizes.Sizes.{Sizes}

-- how many rows the account has, of which these were read
abbrev pub sizes_of : OwnRows → Sizes
sizes_of rows = record {
  forms = 1;
  account_corrections = length rows.own.moves.items;
  reported = length rows.own.reported.items;
  reported_years = length rows.own.reported_years.items;
  corrections = length rows.own.corrected.items;
  year_corrections = length rows.own.corrected_years.items;
  years = length rows.years.items;
  runs = length rows.own.runs.items;
  payments = length rows.own.payments.items;
  obligations = length rows.obligations.items;
}

-- the account of the name has so many rows
pub record AreSizesOf (t : Tables) (name : List ℕ) (sizes : Sizes) : Type 0 where
  pub forms : sizes.forms ≡ length (filter (is_form_of name) (t Forms))
  pub account_corrections : sizes.account_corrections
      ≡ length (filter (is_account_correction_of name) (t CorrectedAccounts))
  pub reported : sizes.reported ≡ length (filter (is_reported_of name) (t ReportedQuarters))
  pub reported_years : sizes.reported_years
      ≡ length (filter (is_reported_year_of name) (t ReportedYears))
  pub corrections : sizes.corrections
      ≡ length (filter (is_correction_of name) (t CorrectedQuarters))
  pub year_corrections : sizes.year_corrections
      ≡ length (filter (is_year_correction_of name) (t CorrectedYears))
  pub years : sizes.years ≡ length (filter (is_year_of name) (t Years))
  pub runs : sizes.runs ≡ length (filter (is_run_of name) (t Runs))
  pub payments : sizes.payments ≡ length (filter (is_payment_of name) (t Payments))
  pub obligations : sizes.obligations
      ≡ length (filter (is_obligation_of_account name) (t Obligations))

-- a count; 2^64 - 1 where it is as much or more
abbrev pub capped : ℕ → ℕ
capped n = min n (2 ^ 64 - 1)

abbrev pub together : ℕ → ℕ → ℕ
together a b = capped (a + b)

-- these rows and those together
abbrev pub sizes_together : Sizes → Sizes → Sizes
sizes_together a b = record {
  forms = together a.forms b.forms;
  account_corrections = together a.account_corrections b.account_corrections;
  reported = together a.reported b.reported;
  reported_years = together a.reported_years b.reported_years;
  corrections = together a.corrections b.corrections;
  year_corrections = together a.year_corrections b.year_corrections;
  years = together a.years b.years;
  runs = together a.runs b.runs;
  payments = together a.payments b.payments;
  obligations = together a.obligations b.obligations;
}

-- less than 2^32 of each kind
pub record AreSmall (sizes : Sizes) : Type 0 where
  pub forms : sizes.forms < 2 ^ 32
  pub account_corrections : sizes.account_corrections < 2 ^ 32
  pub reported : sizes.reported < 2 ^ 32
  pub reported_years : sizes.reported_years < 2 ^ 32
  pub corrections : sizes.corrections < 2 ^ 32
  pub year_corrections : sizes.year_corrections < 2 ^ 32
  pub years : sizes.years < 2 ^ 32
  pub runs : sizes.runs < 2 ^ 32
  pub payments : sizes.payments < 2 ^ 32
  pub obligations : sizes.obligations < 2 ^ 32

-- the tables have so many rows, of each kind less than 2^32
pub record AreAllSizes (sizes : Sizes) (t : Tables) : Type 0 where
  pub forms : CountsAll Forms sizes.forms t
  pub account_corrections : CountsAll CorrectedAccounts sizes.account_corrections t
  pub reported : CountsAll ReportedQuarters sizes.reported t
  pub reported_years : CountsAll ReportedYears sizes.reported_years t
  pub corrections : CountsAll CorrectedQuarters sizes.corrections t
  pub year_corrections : CountsAll CorrectedYears sizes.year_corrections t
  pub years : CountsAll Years sizes.years t
  pub runs : CountsAll Runs sizes.runs t
  pub payments : CountsAll Payments sizes.payments t
  pub obligations : CountsAll Obligations sizes.obligations t
  pub small : AreSmall sizes

-- so many rows of a kind that have these names, each row as often as its name stands there
abbrev pub named_count : {R : Type 0} → (List ℕ → R → Bool) → List R → List (List ℕ) → ℕ
named_count is_of rows names = sum_by (λ name. length (filter (is_of name) rows)) names

-- the accounts of these names have so many rows together; 2^64 - 1 where that is as much or more
pub record AreSizesTogether (t : Tables) (names : List (List ℕ)) (sizes : Sizes) : Type 0 where
  pub forms : sizes.forms ≡ capped (named_count is_form_of (t Forms) names)
  pub account_corrections : sizes.account_corrections
      ≡ capped (named_count is_account_correction_of (t CorrectedAccounts) names)
  pub reported : sizes.reported ≡ capped (named_count is_reported_of (t ReportedQuarters) names)
  pub reported_years : sizes.reported_years
      ≡ capped (named_count is_reported_year_of (t ReportedYears) names)
  pub corrections : sizes.corrections
      ≡ capped (named_count is_correction_of (t CorrectedQuarters) names)
  pub year_corrections : sizes.year_corrections
      ≡ capped (named_count is_year_correction_of (t CorrectedYears) names)
  pub years : sizes.years ≡ capped (named_count is_year_of (t Years) names)
  pub runs : sizes.runs ≡ capped (named_count is_run_of (t Runs) names)
  pub payments : sizes.payments ≡ capped (named_count is_payment_of (t Payments) names)
  pub obligations : sizes.obligations
      ≡ capped (named_count is_obligation_of_account (t Obligations) names)

-- each row of these tables is counted once under these names
pub record CoverAll (t : Tables) (names : List (List ℕ)) : Type 0 where
  pub forms : named_count is_form_of (t Forms) names ≡ length (t Forms)
  pub account_corrections : named_count is_account_correction_of (t CorrectedAccounts) names
      ≡ length (t CorrectedAccounts)
  pub reported : named_count is_reported_of (t ReportedQuarters) names ≡ length (t ReportedQuarters)
  pub reported_years : named_count is_reported_year_of (t ReportedYears) names
      ≡ length (t ReportedYears)
  pub corrections : named_count is_correction_of (t CorrectedQuarters) names
      ≡ length (t CorrectedQuarters)
  pub year_corrections : named_count is_year_correction_of (t CorrectedYears) names
      ≡ length (t CorrectedYears)
  pub years : named_count is_year_of (t Years) names ≡ length (t Years)
  pub runs : named_count is_run_of (t Runs) names ≡ length (t Runs)
  pub payments : named_count is_payment_of (t Payments) names ≡ length (t Payments)
  pub obligations : named_count is_obligation_of_account (t Obligations) names
      ≡ length (t Obligations)
