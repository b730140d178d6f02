-- Sizes of several accounts taken together, and how they stand to those of all tables.
use Rattle.std.proofs.Common.{◌≡◌, ◌+◌, ◌-◌, ◌<◌, ◌≤◌, ◌^◌, ◌++◌, ℕ, refl, Bool, List, [], ◌∷◌}
use Rattle.std.proofs.Common.{filter, length, arith, lit≤}
use Rattle.std.specs.Prelude.{min}
use Rattle.std.proofs.lemmas.List.Sums.{sum_by_push}
use Rattle.ftd_sql.specs.Standing.{Tables}
use Rattle.ftd_sql.specs.Tests.{is_form_of, is_account_correction_of, is_reported_of}
use Rattle.ftd_sql.specs.Tests.{is_reported_year_of, is_correction_of, is_year_correction_of}
use Rattle.ftd_sql.specs.Tests.{is_year_of, is_run_of, is_payment_of, is_obligation_of_account}
use Rattle.ftd_sql.specs.declared.TableName.TheVariants.{Forms, CorrectedAccounts}
use Rattle.ftd_sql.specs.declared.TableName.TheVariants.{ReportedQuarters, ReportedYears}
use Rattle.ftd_sql.specs.declared.TableName.TheVariants.{CorrectedQuarters, CorrectedYears}
use Rattle.ftd_sql.specs.declared.TableName.TheVariants.{Years, Runs, Payments, Obligations}
use Rattle.ftd_check.specs.Sizes.{AreAllSizes, AreSizesOf, AreSizesTogether, CoverAll, named_count}
use Rattle.ftd_check.specs.Sizes.{sizes_together, together, capped}
use Rattle.ftd_check.specs.declared.sizes.Sizes.{Sizes}

-- one more
sum_more : (m a b x y s : ℕ) → a ≡ min x m → b ≡ y → s ≡ x + y
    → min (a + b) m ≡ min s m
sum_more m a b x y s first second sum = omega arith

count_more : {R : Type 0} (is_of : List ℕ → R → Bool) (rows : List R) (names : List (List ℕ))
    (name : List ℕ) (a b : ℕ) → a ≡ capped (named_count is_of rows names)
    → b ≡ length (filter (is_of name) rows)
    → together a b ≡ capped (named_count is_of rows (names ++ name ∷ []))
count_more is_of rows names name a b first second =
    sum_more (2 ^ 64 - 1) a b (named_count is_of rows names) (length (filter (is_of name) rows))
    (named_count is_of rows (names ++ name ∷ [])) first second
    (sum_by_push (λ n. length (filter (is_of n) rows)) names name)

-- fewer than 2^32 are as many as they are
few_are : (m k a x n : ℕ) → k ≤ m → a < k → a ≡ min x m → a ≡ n → x ≡ n
few_are m k a x n below small is all = omega arith

all_are : (a x n : ℕ) → a < 2 ^ 32 → a ≡ capped x → a ≡ n → x ≡ n
all_are a x n small is all = few_are (2 ^ 64 - 1) (2 ^ 32) a x n (lit≤ tt) small is all

module _ (t : Tables) where
  -- no account has none
  pub together_none : AreSizesTogether t [] (record {
    forms = 0;
    account_corrections = 0;
    reported = 0;
    reported_years = 0;
    corrections = 0;
    year_corrections = 0;
    years = 0;
    runs = 0;
    payments = 0;
    obligations = 0;
  })
  together_none = record {
    forms = refl;
    account_corrections = refl;
    reported = refl;
    reported_years = refl;
    corrections = refl;
    year_corrections = refl;
    years = refl;
    runs = refl;
    payments = refl;
    obligations = refl;
  }

  -- one account more
  pub together_more : (names : List (List ℕ)) (name : List ℕ) (sizes more : Sizes)
      → AreSizesTogether t names sizes → AreSizesOf t name more
      → AreSizesTogether t (names ++ name ∷ []) (sizes_together sizes more)
  together_more names name sizes more so_far its = record {
    forms = count_more is_form_of (t Forms) names name
        sizes.forms more.forms
        so_far.forms its.forms;
    account_corrections = count_more is_account_correction_of (t CorrectedAccounts) names name
        sizes.account_corrections more.account_corrections
        so_far.account_corrections its.account_corrections;
    reported = count_more is_reported_of (t ReportedQuarters) names name
        sizes.reported more.reported
        so_far.reported its.reported;
    reported_years = count_more is_reported_year_of (t ReportedYears) names name
        sizes.reported_years more.reported_years
        so_far.reported_years its.reported_years;
    corrections = count_more is_correction_of (t CorrectedQuarters) names name
        sizes.corrections more.corrections
        so_far.corrections its.corrections;
    year_corrections = count_more is_year_correction_of (t CorrectedYears) names name
        sizes.year_corrections more.year_corrections
        so_far.year_corrections its.year_corrections;
    years = count_more is_year_of (t Years) names name
        sizes.years more.years
        so_far.years its.years;
    runs = count_more is_run_of (t Runs) names name sizes.runs more.runs so_far.runs its.runs;
    payments = count_more is_payment_of (t Payments) names name
        sizes.payments more.payments
        so_far.payments its.payments;
    obligations = count_more is_obligation_of_account (t Obligations) names name
        sizes.obligations more.obligations
        so_far.obligations its.obligations;
  }

  -- where they are as many as the tables have, each row is counted
  pub together_all : (names : List (List ℕ)) (sizes : Sizes) → AreSizesTogether t names sizes
      → AreAllSizes sizes t → CoverAll t names
  together_all names sizes are all = record {
    forms = all_are sizes.forms _ (length (t Forms)) all.small.forms are.forms all.forms;
    account_corrections = all_are sizes.account_corrections _ (length (t CorrectedAccounts))
        all.small.account_corrections are.account_corrections
        all.account_corrections;
    reported = all_are sizes.reported _ (length (t ReportedQuarters))
        all.small.reported are.reported
        all.reported;
    reported_years = all_are sizes.reported_years _ (length (t ReportedYears))
        all.small.reported_years are.reported_years
        all.reported_years;
    corrections = all_are sizes.corrections _ (length (t CorrectedQuarters))
        all.small.corrections are.corrections
        all.corrections;
    year_corrections = all_are sizes.year_corrections _ (length (t CorrectedYears))
        all.small.year_corrections are.year_corrections
        all.year_corrections;
    years = all_are sizes.years _ (length (t Years)) all.small.years are.years all.years;
    runs = all_are sizes.runs _ (length (t Runs)) all.small.runs are.runs all.runs;
    payments = all_are sizes.payments _ (length (t Payments))
        all.small.payments are.payments
        all.payments;
    obligations = all_are sizes.obligations _ (length (t Obligations))
        all.small.obligations are.obligations
        all.obligations;
  }
