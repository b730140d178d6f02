-- Rows are all of the accounts where they are as many.
use Rattle.std.proofs.Common.{◌≡◌, ◌<◌, ◌≤◌, ◌^◌, ◌-◌, ℕ, List, arith, lit≤}
use Rattle.std.specs.Prelude.{min}
use Rattle.ftd_sql.specs.Rows.{FormRow, ReportedQuarterRow, ReportedYearRow, YearRow, RunRow}
use Rattle.ftd_sql.specs.Rows.{PaymentRow, ObligationRow, CorrectedQuarterRow, CorrectedYearRow}
use Rattle.ftd_sql.specs.Rows.{CorrectedAccountRow}
use Rattle.ftd_sql.specs.Standing.{Tables}
use Rattle.ftd_sql.specs.declared.TableName.TheVariants.{Forms, CorrectedAccounts}
use Rattle.ftd_sql.specs.declared.TableName.TheVariants.{ReportedQuarters, ReportedYears}
use Rattle.ftd_sql.specs.declared.TableName.TheVariants.{CorrectedQuarters, CorrectedYears}
use Rattle.ftd_sql.specs.declared.TableName.TheVariants.{Years, Runs, Payments, Obligations}
use Rattle.ftd_machine.specs.Sound.{AreDistinct}
use Rattle.ftd_check.specs.Sizes.{AreAllSizes, AreSizesTogether, CoverAll, capped}
use Rattle.ftd_check.specs.Whole.{AreOfAccounts}
use Rattle.ftd_check.specs.declared.sizes.Sizes.{Sizes}
use Rattle.ftd_check.proofs.Covered.{text_itself, covered, covering}

-- fewer than 2^32 are as many as they are
capped_same : (m k a x n b : ℕ) → k ≤ m → a ≡ min x m → x ≡ n → b ≡ n → b < k → a ≡ b
capped_same m k a x n b below is all whole small = omega arith

one_size : (a x n b : ℕ) → a ≡ capped x → x ≡ n → b ≡ n → b < 2 ^ 32 → a ≡ b
one_size a x n b is all whole small =
    capped_same (2 ^ 64 - 1) (2 ^ 32) a x n b (lit≤ tt) is all whole small

module _ (t : Tables) (names : List (List ℕ)) (once : AreDistinct text_itself names) where
  pub of_accounts : CoverAll t names → AreOfAccounts t names
  of_accounts all = record {
    forms = covered (λ (r : FormRow). r.account) names once (t Forms) all.forms;
    moves = covered (λ (r : CorrectedAccountRow). r.account)
        names once (t CorrectedAccounts) all.account_corrections;
    reported = covered (λ (r : ReportedQuarterRow). r.account)
        names once (t ReportedQuarters) all.reported;
    reported_years = covered (λ (r : ReportedYearRow). r.account)
        names once (t ReportedYears) all.reported_years;
    corrected = covered (λ (r : CorrectedQuarterRow). r.account)
        names once (t CorrectedQuarters) all.corrections;
    corrected_years = covered (λ (r : CorrectedYearRow). r.account)
        names once (t CorrectedYears) all.year_corrections;
    years = covered (λ (r : YearRow). r.account) names once (t Years) all.years;
    runs = covered (λ (r : RunRow). r.account) names once (t Runs) all.runs;
    payments = covered (λ (r : PaymentRow). r.account) names once (t Payments) all.payments;
    obligations = covered (λ (r : ObligationRow). r.account)
        names once (t Obligations) all.obligations;
  }

  pub all_counted : AreOfAccounts t names → CoverAll t names
  all_counted of = record {
    forms = covering (λ (r : FormRow). r.account) names once (t Forms) of.forms;
    account_corrections = covering (λ (r : CorrectedAccountRow). r.account)
        names once (t CorrectedAccounts) of.moves;
    reported = covering (λ (r : ReportedQuarterRow). r.account)
        names once (t ReportedQuarters) of.reported;
    reported_years = covering (λ (r : ReportedYearRow). r.account)
        names once (t ReportedYears) of.reported_years;
    corrections = covering (λ (r : CorrectedQuarterRow). r.account)
        names once (t CorrectedQuarters) of.corrected;
    year_corrections = covering (λ (r : CorrectedYearRow). r.account)
        names once (t CorrectedYears) of.corrected_years;
    years = covering (λ (r : YearRow). r.account) names once (t Years) of.years;
    runs = covering (λ (r : RunRow). r.account) names once (t Runs) of.runs;
    payments = covering (λ (r : PaymentRow). r.account) names once (t Payments) of.payments;
    obligations = covering (λ (r : ObligationRow). r.account)
        names once (t Obligations) of.obligations;
  }

pub same_sizes : (t : Tables) (names : List (List ℕ)) (a b : Sizes) → AreSizesTogether t names a
    → CoverAll t names → AreAllSizes b t → a ≡ b
same_sizes t names a b a_is all b_is =
    let forms' = one_size a.forms _ _ b.forms a_is.forms all.forms b_is.forms b_is.small.forms in
    let account_corrections' =
    one_size a.account_corrections _ _ b.account_corrections
    a_is.account_corrections all.account_corrections b_is.account_corrections
    b_is.small.account_corrections in
    let reported' =
    one_size a.reported _ _ b.reported
    a_is.reported all.reported b_is.reported
    b_is.small.reported in
    let reported_years' =
    one_size a.reported_years _ _ b.reported_years
    a_is.reported_years all.reported_years b_is.reported_years
    b_is.small.reported_years in
    let corrections' =
    one_size a.corrections _ _ b.corrections
    a_is.corrections all.corrections b_is.corrections
    b_is.small.corrections in
    let year_corrections' =
    one_size a.year_corrections _ _ b.year_corrections
    a_is.year_corrections all.year_corrections b_is.year_corrections
    b_is.small.year_corrections in
    let years' = one_size a.years _ _ b.years a_is.years all.years b_is.years b_is.small.years in
    let runs' = one_size a.runs _ _ b.runs a_is.runs all.runs b_is.runs b_is.small.runs in
    let payments' =
    one_size a.payments _ _ b.payments
    a_is.payments all.payments b_is.payments
    b_is.small.payments in
    let obligations' =
    one_size a.obligations _ _ b.obligations
    a_is.obligations all.obligations b_is.obligations
    b_is.small.obligations in
    λ i. record {
      forms = forms' i;
      account_corrections = account_corrections' i;
      reported = reported' i;
      reported_years = reported_years' i;
      corrections = corrections' i;
      year_corrections = year_corrections' i;
      years = years' i;
      runs = runs' i;
      payments = payments' i;
      obligations = obligations' i;
    }
