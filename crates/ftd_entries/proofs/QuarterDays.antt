-- The days of a quarter, from its first to its last, and what the checks of an account and a
-- quarter say of its year.
use Rattle.std.proofs.Common.{◌≡◌, ◌∙◌, ℕ, ◌+◌, ◌*◌, ◌≤◌, ◌&&◌, ◌∷◌, Bool, true, List, [], Option}
use Rattle.std.proofs.Common.{None}
use Rattle.std.proofs.Common.{sym, ap, arith}
use Rattle.std.specs.Prelude.{int_le, nat_le}
use Rattle.std.proofs.lemmas.Bool.{leb-true, le-leb, and_parts}
use Rattle.ftd_days.specs.Calendar.{month_start, quarter_of, quarter_year, quarter_start}
use Rattle.ftd_days.proofs.Months.{day_in_years, month_start-mono, month_start-end}
use Rattle.ftd_rules.specs.Accounts.{is_account_name}
use Rattle.ftd_rules.proofs.Status.{quarter_is, quarter_only}
use Rattle.ftd_store.specs.Cells.{day_number}
use Rattle.ftd_machine.specs.Checks.{first_of, finds}
use Rattle.ftd_machine.specs.Limits.{is_between}
use Rattle.ftd_machine.specs.Requests.{kept_in_quarter_checks}
use Rattle.ftd_machine.specs.declared.entries.Account.{Account}
use Rattle.ftd_machine.specs.declared.replies.Refusal.TheVariants.{BadName, BadYear, UnknownAccount}
use Rattle.ftd_machine.proofs.Heads.{gives_needs, skip_needs}
use Rattle.ftd_entries.proofs.DayCells.{day_le}

module _ (quarter last : ℕ) (is_last : last + 1 ≡ quarter_start (quarter + 1)) where
  pub in_quarter : (day : ℕ) → quarter_year quarter ≤ 2098 → quarter_of day ≡ quarter
      → (quarter_start quarter ≤ day) × (day ≤ last)
  in_quarter day early is =
      let within = day_in_years day (omega arith) in
      let days = quarter_is day within in
      let low = days.0 in let high = days.1 in
      let first : quarter_start (quarter_of day) ≡ quarter_start quarter = ap quarter_start is in
      let next : month_start (3 * quarter_of day + 3) ≡ quarter_start (quarter + 1) =
      ap month_start (omega arith) in
      (omega arith, omega arith)

  pub of_quarter : (day : ℕ) → quarter_year quarter ≤ 2098 → quarter_start quarter ≤ day
      → day ≤ last → quarter_of day ≡ quarter
  of_quarter day early low high =
      let next : month_start (3 * quarter + 3) ≡ quarter_start (quarter + 1) =
      ap month_start (omega arith) in
      let top = month_start-mono (3 * quarter + 3) 3600 (omega arith) in
      let end = month_start-end in
      quarter_only day quarter (omega arith) low (omega arith)

-- ---- a stretch of days, by the cells of a row

pub days_from : (name : List ℕ) (first last payday : ℕ) (b : Bool)
    → (b && (int_le (day_number first) (day_number payday)
    && int_le (day_number payday) (day_number last))) ≡ true
    → (b ≡ true) × (first ≤ payday) × (payday ≤ last)
days_from name first last payday b e =
    let parts = and_parts b _ e in
    let days = and_parts (int_le (day_number first) (day_number payday))
    (int_le (day_number payday) (day_number last)) parts.1 in (
      parts.0,
      leb-true first payday (sym (day_le first payday) ∙ days.0),
      leb-true payday last (sym (day_le payday last) ∙ days.1),
    )

pub days_into : (first last payday : ℕ) → first ≤ payday → payday ≤ last
    → (int_le (day_number first) (day_number payday)
    && int_le (day_number payday) (day_number last)) ≡ true
days_into first last payday low high =
    ap (λ b. b && int_le (day_number payday) (day_number last))
    (day_le first payday ∙ le-leb first payday low)
    ∙ (day_le payday last ∙ le-leb payday last high)

-- ---- the year of a quarter that the checks let pass

pub early_quarter : (name : List ℕ) (quarter : ℕ) (account : Option Account)
    → first_of (kept_in_quarter_checks name quarter account) ≡ None → quarter_year quarter ≤ 2098
early_quarter name quarter account e =
    let between = (skip_needs (is_account_name name) BadName _ _
    (gives_needs (is_between 2001 2098 (quarter_year quarter)) BadYear
    (finds account UnknownAccount ∷ []))).fact e in
    leb-true (quarter_year quarter) 2098
    (and_parts (nat_le 2001 (quarter_year quarter)) (nat_le (quarter_year quarter) 2098) between).1
