-- The history of an account: what the rules are told of its entries.
use Rattle.std.specs.Prelude.{◌≡◌, ℕ, Bool, not, false, List, [], ◌∷◌, map, filter, Option, None}
use Rattle.std.specs.Prelude.{Some}
use Rattle.ftd_days.specs.declared.cents.Cents.{Cents}
use Rattle.ftd_rules.specs.declared.Form.{Form}
use Rattle.ftd_rules.specs.declared.Form.TheVariants.{F941, F943}
use Rattle.ftd_rules.specs.declared.DaySum.{DaySum}
use Rattle.ftd_rules.specs.declared.YearLine.{YearLine}
use Rattle.ftd_rules.specs.declared.Obligation.{Obligation}
use Rattle.ftd_rules.specs.Lists.{Has}
use Rattle.ftd_rules.specs.Liability.{run_liability}
use Rattle.ftd_rules.specs.Lookback.{IsLookback, IsFirstMissing, IsYearLookback, IsYearMissing}
use Rattle.ftd_rules.specs.Years.{AreLines}
use Rattle.ftd_rules.specs.Obligations.{AreObligations}
use Rattle.ftd_machine.specs.declared.entries.Account.{Account}
use Rattle.ftd_rules.specs.declared.run.PayRun.{PayRun}
use Rattle.ftd_rules.specs.declared.payment.Payment.{Payment}
use Rattle.ftd_rules.specs.declared.run.Voidable.{Voidable}
use Rattle.ftd_machine.specs.declared.replies.Refusal.{Refusal}
use Rattle.ftd_machine.specs.declared.replies.Refusal.TheVariants.{QuarterMissing, YearMissing}
use Rattle.ftd_machine.specs.State.{Entry, Entries, latest, all_at}

-- the first day, the form, and whether it came in as semiweekly, of an account that is enrolled.
-- One that is not has no entries, and nothing rests on what stands here for it.
abbrev pub start_of : Option Account → ℕ
start_of None = 0
start_of (Some account) = account.start

abbrev pub form_of : Option Account → Form
form_of None = F941
form_of (Some account) = account.form

abbrev pub is_carried : Option Account → Bool
is_carried None = false
is_carried (Some account) = account.carried

-- the figures that were reported, as they are in force, each with its quarter or its year
abbrev pub figure_of : List (Entry Cents) → Entry Cents → ℕ × Cents
figure_of corrected e = (e.key, latest e.content (all_at e.key corrected))

abbrev pub figures : List (Entry Cents) → List (Entry Cents) → List (ℕ × Cents)
figures reported corrected = map (figure_of corrected) reported

abbrev pub quarter_figures : Entries → List (ℕ × Cents)
quarter_figures own = figures own.reported own.corrected

abbrev pub year_figures : Entries → List (ℕ × Cents)
year_figures own = figures own.reported_years own.corrected_years

-- the runs or payments that are live: accepted, and not voided
abbrev pub is_live : {X : Type 0} → Entry (Voidable X) → Bool
is_live e = not e.content.voided

abbrev pub value_of : {X : Type 0} → Entry (Voidable X) → X
value_of e = e.content.value

abbrev pub live : {X : Type 0} → List (Entry (Voidable X)) → List X
live entries = map value_of (filter is_live entries)

-- a run's liability, on its payday (Pub. 15 section 11, "When To Deposit")
abbrev pub liability_of : PayRun → DaySum
liability_of run =
    let cents = run_liability run.fit.0 run.ss.0 run.medicare.0 in
    record { day = run.payday; cents = record { 0 = cents } }

abbrev pub live_sums : Entries → List DaySum
live_sums own = map liability_of (live own.runs)

-- the live payments
abbrev pub live_payments : Entries → List Payment
live_payments own = live own.payments

-- the total of the lookback period of a year, by the account's form
abbrev pub IsLookbackOn : Form → Entries → ℕ → Cents → Type 0
IsLookbackOn F941 own year total =
    IsLookback (quarter_figures own) (start_of own.account) year total.0
IsLookbackOn F943 own year total =
    IsYearLookback (year_figures own) (start_of own.account) year total

abbrev pub HasLookback : Entries → ℕ → Cents → Type 0
HasLookback own year total = IsLookbackOn (form_of own.account) own year total

-- a figure of the lookback period is missing, and this refusal names the earliest
abbrev pub IsMissingOn : Form → Entries → ℕ → Refusal → Type 0
IsMissingOn F941 own year refusal =
    (quarter : ℕ) × IsFirstMissing (quarter_figures own) (start_of own.account) year quarter
    × (refusal ≡ QuarterMissing quarter)
IsMissingOn F943 own year refusal =
    (missing : ℕ) × IsYearMissing (year_figures own) (start_of own.account) year missing
    × (refusal ≡ YearMissing missing)

abbrev pub LacksFigure : Entries → ℕ → Refusal → Type 0
LacksFigure own year refusal = IsMissingOn (form_of own.account) own year refusal

-- the account is carried into the first of its open years, if it came in as semiweekly, and into no
-- other one
abbrev pub AreCarried : Bool → List YearLine → Type 0
AreCarried carried [] = Unit {0}
AreCarried carried (line ∷ lines) = (line.carried ≡ carried) × AreCarried false lines

abbrev pub year_of_line : YearLine → ℕ
year_of_line line = line.year

abbrev pub year_of_entry : Entry (Unit {0}) → ℕ
year_of_entry e = e.key

-- the lines of the account's open years: each with its lookback total, with whether the account is
-- carried into it, and with the opening and the turn that the live runs give it
pub record AreLinesOf (own : Entries) (lines : List YearLine) : Type 0 where
  pub years : map year_of_line lines ≡ map year_of_entry own.open_years
  pub lookbacks : (line : YearLine) → Has lines line → HasLookback own line.year line.lookback
  pub carried : AreCarried (is_carried own.account) lines
  pub schedules : AreLines (live_sums own) lines

-- the obligations of the account, with these legal holidays
abbrev pub AreOwed : List ℕ → Entries → List Obligation → Type 0
AreOwed holidays own rows =
    (lines : List YearLine) × AreLinesOf own lines
    × AreObligations (form_of own.account) lines (live_sums own) holidays rows
