-- The parts of what is kept of an account, by the values of their rows.
use Rattle.std.specs.Prelude.{◌≡◌, ◌⊎◌, List, [], ◌∷◌, map, Option, None, Some}
use Rattle.ftd_rules.specs.declared.Form.{Form}
use Rattle.ftd_store.specs.declared.account_cells.Account.{Account}
use Rattle.ftd_store.specs.declared.added_cells.QuarterCorrection.{QuarterCorrection}
use Rattle.ftd_store.specs.declared.added_cells.YearCorrection.{YearCorrection}
use Rattle.ftd_store.specs.declared.correction_cells.AccountCorrection.{AccountCorrection}
use Rattle.ftd_store.specs.declared.kept_cells.NumberedPayment.{NumberedPayment}
use Rattle.ftd_store.specs.declared.kept_cells.NumberedRun.{NumberedRun}
use Rattle.ftd_store.specs.declared.kept_cells.QuarterTotal.{QuarterTotal}
use Rattle.ftd_store.specs.declared.kept_cells.YearTotal.{YearTotal}
use Rattle.ftd_check.specs.Numbers.{AreNumbered}
use Rattle.ftd_check.specs.Private.Values.{account_key, quarter_key, year_key}
use Rattle.ftd_check.specs.Private.Values.{beginning_corrected, quarter_total_pair}
use Rattle.ftd_check.specs.Private.Values.{year_total_pair, quarter_pair, year_pair}
use Rattle.ftd_check.specs.Private.Values.{run_pair, payment_pair}
use Rattle.ftd_check.specs.declared.parts.Begun.{Begun}
use Rattle.ftd_check.specs.declared.parts.Posted.{Posted}
use Rattle.ftd_check.specs.declared.parts.Quarters.{Quarters}
use Rattle.ftd_check.specs.declared.parts.Years.{Years}

-- the account that begins so, has the form, and was put right so
pub record IsBegun (account : Account) (forms : List Form) (corrections : List AccountCorrection)
    (begun : Begun) : Type 0 where
  pub start : begun.account.start ≡ account.start
  pub carried : begun.account.carried ≡ account.carried
  pub form : forms ≡ begun.account.form ∷ []
  pub numbered : AreNumbered (map account_key corrections)
  pub moves : begun.moves.items ≡ map beginning_corrected corrections

-- or None, where it does not have one form, or the numbers of the corrections do not count from 1
abbrev pub AreBegun : Account → List Form → List AccountCorrection → Option Begun → Type 0
AreBegun account forms corrections None =
    ((form : Form) → forms ≡ form ∷ [] → ⊥) ⊎ (AreNumbered (map account_key corrections) → ⊥)
AreBegun account forms corrections (Some begun) = IsBegun account forms corrections begun

-- the totals of quarters; or None, where the numbers of corrections do not count from 1
abbrev pub AreQuarters : List QuarterTotal → List QuarterCorrection → Option Quarters → Type 0
AreQuarters reported corrected None = AreNumbered (map quarter_key corrected) → ⊥
AreQuarters reported corrected (Some quarters) =
    (quarters.reported.items ≡ map quarter_total_pair reported)
    × AreNumbered (map quarter_key corrected)
    × (quarters.corrected.items ≡ map quarter_pair corrected)

-- the totals of years likewise
abbrev pub AreYears : List YearTotal → List YearCorrection → Option Years → Type 0
AreYears reported corrected None = AreNumbered (map year_key corrected) → ⊥
AreYears reported corrected (Some years) =
    (years.reported.items ≡ map year_total_pair reported)
    × AreNumbered (map year_key corrected)
    × (years.corrected.items ≡ map year_pair corrected)

-- the runs and the payments
abbrev pub ArePosted : List NumberedRun → List NumberedPayment → Posted → Type 0
ArePosted runs payments posted =
    (posted.runs.items ≡ map run_pair runs) × (posted.payments.items ≡ map payment_pair payments)
