-- The desk's values as the numbers and texts of cells.
use Rattle.std.specs.Prelude.{◌≡◌, ◌⊎◌, ◌<◌, ◌^◌, ℕ, ℤ, pos, ◌-ℤ◌, neg_ℤ, Bool, if◌then◌else◌, List}
use Rattle.std.specs.Prelude.{[], ◌∷◌, length, string_bytes, IsUtf8}
use Rattle.jiff.specs.Words.{IsBetween}
use Rattle.sqlite.specs.declared.types.Value.{Value}
use Rattle.sqlite.specs.declared.types.Value.TheVariants.{Null, Int, Text}
use Rattle.sqlite.specs.Order.{Row}
use Rattle.sqlite.specs.Values.{or_null}
use Rattle.sqlite_value.specs.Order.{column}
use Rattle.ftd_days.specs.declared.cents.Cents.{Cents}
use Rattle.ftd_days.specs.declared.limits.TheConstants.{DAYS_TO_1970, LAST_NUMBER}
use Rattle.ftd_rules.specs.declared.Rule.{Rule}
use Rattle.ftd_rules.specs.declared.Rule.TheVariants as rule
use Rattle.ftd_rules.specs.declared.Kind.{Kind}
use Rattle.ftd_rules.specs.declared.Kind.TheVariants as kind
use Rattle.ftd_rules.specs.declared.Form.{Form}
use Rattle.ftd_rules.specs.declared.Form.TheVariants as form
use Rattle.ftd_rules.specs.declared.Obligation.{Obligation}
use Rattle.ftd_store.specs.declared.account_cells.Account.{Account}
use Rattle.ftd_rules.specs.declared.run.PayRun.{PayRun}
use Rattle.ftd_rules.specs.declared.run.Voidable.{Voidable}
use Rattle.ftd_rules.specs.declared.payment.Payment.{Payment}
use Rattle.ftd_store.specs.declared.obligation_cells.AccountObligation.{AccountObligation}
use Rattle.ftd_store.specs.declared.year_cells.StoredYear.{StoredYear}

-- ---- single values

-- days since 1970-01-01
abbrev pub day_number : ℕ → ℤ
day_number day = pos day -ℤ DAYS_TO_1970

abbrev pub flag_number : Bool → ℤ
flag_number b = if b then pos 1 else pos 0

abbrev pub rule_number : Rule → ℤ
rule_number rule.Monthly = pos 0
rule_number rule.Semiweekly = pos 1
rule_number rule.NextDay = pos 2

abbrev pub schedule_number : Kind → ℤ
schedule_number kind.Monthly = pos 0
schedule_number kind.Semiweekly = pos 1

abbrev pub form_number : Form → ℤ
form_number form.F941 = pos 0
form_number form.F943 = pos 1

-- ---- cells that are such values

-- a day from 1900-01-01 to 2199-12-31
abbrev pub IsDayCell : Value → Type 0
IsDayCell v = (n : ℤ) × (v ≡ Int n) × IsBetween (neg_ℤ DAYS_TO_1970) LAST_NUMBER n

abbrev pub IsFlagCell : Value → Type 0
IsFlagCell v = (b : Bool) × (v ≡ Int (flag_number b))

abbrev pub IsRuleCell : Value → Type 0
IsRuleCell v = (rule : Rule) × (v ≡ Int (rule_number rule))

abbrev pub IsScheduleCell : Value → Type 0
IsScheduleCell v = (kind : Kind) × (v ≡ Int (schedule_number kind))

abbrev pub IsFormCell : Value → Type 0
IsFormCell v = (form : Form) × (v ≡ Int (form_number form))

-- a whole number from 0 on
abbrev pub IsAmountCell : Value → Type 0
IsAmountCell v = (n : ℕ) × (v ≡ Int (pos n))

-- a whole number below 2^32
abbrev pub IsCountCell : Value → Type 0
IsCountCell v = (n : ℕ) × (v ≡ Int (pos n)) × (n < 2 ^ 32)

abbrev pub IsTextCell : Value → Type 0
IsTextCell v = (t : List ℕ) × (v ≡ Text t) × IsUtf8 t

-- ---- what rows show

abbrev pub account_cells : Account → Row
account_cells a = Int (day_number a.start) ∷ Int (flag_number a.carried) ∷ []

abbrev pub form_cells : Form → Row
form_cells form = Int (form_number form) ∷ []

abbrev pub cents_cells : Cents → Row
cents_cells cents = Int (pos cents.0) ∷ []

abbrev pub count_cells : ℕ → Row
count_cells n = Int (pos n) ∷ []

abbrev pub day_cells : ℕ → Row
day_cells day = Int (day_number day) ∷ []

abbrev pub pay_run_cells : PayRun → Row
pay_run_cells r =
    Int (day_number r.payday) ∷ Int (pos r.fit.0) ∷ Int (pos r.ss.0) ∷ Int (pos r.medicare.0) ∷ []

abbrev pub stored_run_cells : Voidable PayRun → Row
stored_run_cells r =
    Int (day_number r.value.payday) ∷ Int (pos r.value.fit.0) ∷ Int (pos r.value.ss.0)
    ∷ Int (pos r.value.medicare.0) ∷ Int (flag_number r.voided) ∷ []

abbrev pub payment_cells : Payment → Row
payment_cells p = Int (day_number p.for_day) ∷ Int (day_number p.paid) ∷ Int (pos p.cents.0) ∷ []

abbrev pub stored_payment_cells : Voidable Payment → Row
stored_payment_cells p =
    Int (day_number p.value.paid) ∷ Int (day_number p.value.for_day) ∷ Int (pos p.value.cents.0)
    ∷ Int (flag_number p.voided) ∷ []

abbrev pub obligation_cells : Obligation → Row
obligation_cells o =
    Int (day_number o.first) ∷ Int (day_number o.last) ∷ Int (rule_number o.rule)
    ∷ Int (pos o.cents.0) ∷ Int (day_number o.due) ∷ []

abbrev pub account_obligation_cells : AccountObligation → Row
account_obligation_cells o =
    Text (string_bytes o.account) ∷ Int (day_number o.obligation.first)
    ∷ Int (day_number o.obligation.last) ∷ Int (rule_number o.obligation.rule)
    ∷ Int (pos o.obligation.cents.0) ∷ Int (day_number o.obligation.due) ∷ []

abbrev pub year_cells : StoredYear → Row
year_cells y =
    Int (pos y.year) ∷ Int (pos y.lookback.0) ∷ Int (schedule_number y.opening)
    ∷ or_null (λ day. Int (day_number day)) y.turn ∷ []

-- ---- rows that show some value

abbrev pub IsAccountCells : Row → Type 0
IsAccountCells row = (length row ≡ 2) × IsDayCell (column row 0) × IsFlagCell (column row 1)

abbrev pub IsFormCells : Row → Type 0
IsFormCells row = (length row ≡ 1) × IsFormCell (column row 0)

abbrev pub IsCentsCells : Row → Type 0
IsCentsCells row = (length row ≡ 1) × IsAmountCell (column row 0)

abbrev pub IsCountCells : Row → Type 0
IsCountCells row = (length row ≡ 1) × IsCountCell (column row 0)

abbrev pub IsDayCells : Row → Type 0
IsDayCells row = (length row ≡ 1) × IsDayCell (column row 0)

abbrev pub IsPayRunCells : Row → Type 0
IsPayRunCells row =
    (length row ≡ 4) × IsDayCell (column row 0) × IsAmountCell (column row 1)
    × IsAmountCell (column row 2) × IsAmountCell (column row 3)

abbrev pub IsStoredRunCells : Row → Type 0
IsStoredRunCells row =
    (length row ≡ 5) × IsDayCell (column row 0) × IsAmountCell (column row 1)
    × IsAmountCell (column row 2) × IsAmountCell (column row 3) × IsFlagCell (column row 4)

abbrev pub IsPaymentCells : Row → Type 0
IsPaymentCells row =
    (length row ≡ 3) × IsDayCell (column row 0) × IsDayCell (column row 1)
    × IsAmountCell (column row 2)

abbrev pub IsStoredPaymentCells : Row → Type 0
IsStoredPaymentCells row =
    (length row ≡ 4) × IsDayCell (column row 0) × IsDayCell (column row 1)
    × IsAmountCell (column row 2) × IsFlagCell (column row 3)

abbrev pub IsObligationCells : Row → Type 0
IsObligationCells row =
    (length row ≡ 5) × IsDayCell (column row 0) × IsDayCell (column row 1)
    × IsRuleCell (column row 2) × IsAmountCell (column row 3) × IsDayCell (column row 4)

abbrev pub IsAccountObligationCells : Row → Type 0
IsAccountObligationCells row =
    (length row ≡ 6) × IsTextCell (column row 0) × IsDayCell (column row 1)
    × IsDayCell (column row 2) × IsRuleCell (column row 3) × IsAmountCell (column row 4)
    × IsDayCell (column row 5)

abbrev pub IsYearCells : Row → Type 0
IsYearCells row =
    (length row ≡ 4) × IsCountCell (column row 0) × IsAmountCell (column row 1)
    × IsScheduleCell (column row 2) × ((column row 3 ≡ Null) ⊎ IsDayCell (column row 3))
