-- The journal of an account part by part, as it is read of the tables.
use Rattle.std.specs.Prelude.{◌≡◌, ◌++◌, ◌∷◌, ℕ, Bool, List, [], Option, None, Some, option_map}
use Rattle.std.specs.Prelude.{Vec, map, flat_map, filter}
use Rattle.ftd_days.specs.declared.cents.Cents.{Cents}
use Rattle.ftd_rules.specs.declared.YearLine.{YearLine}
use Rattle.ftd_rules.specs.declared.payment.Payment.{Payment}
use Rattle.ftd_rules.specs.declared.run.PayRun.{PayRun}
use Rattle.ftd_rules.specs.declared.run.Voidable.{Voidable}
use Rattle.ftd_sql.specs.Standing.{Tables}
use Rattle.ftd_store.specs.declared.correction_cells.AccountCorrection.{AccountCorrection}
use Rattle.ftd_store.specs.declared.correction_cells.Correction.{Correction as StoredCorrection}
use Rattle.ftd_store.specs.declared.kept_cells.NumberedPayment.{NumberedPayment}
use Rattle.ftd_store.specs.declared.kept_cells.NumberedRun.{NumberedRun}
use Rattle.ftd_store.specs.declared.kept_cells.QuarterTotal.{QuarterTotal}
use Rattle.ftd_store.specs.declared.kept_cells.YearTotal.{YearTotal}
use Rattle.ftd_machine.specs.Journal.{account_enrolled, account_journal, corrections}
use Rattle.ftd_machine.specs.Journal.{days_journal, in_order, is_account_before, own_by_key}
use Rattle.ftd_machine.specs.Journal.{payment_made, run_posted, total_reported, void_if}
use Rattle.ftd_machine.specs.Journal.{year_opened}
use Rattle.ftd_machine.specs.Sound.{IsSound, name_of}
use Rattle.ftd_machine.specs.State.{State, Enrolled, Entry, enrolled_in, is_of}
use Rattle.ftd_machine.specs.declared.entries.Account.{Account}
use Rattle.ftd_machine.specs.declared.entries.ReturnPeriod.{ReturnPeriod}
use Rattle.ftd_machine.specs.declared.entries.ReturnPeriod.TheVariants.{Quarter, Year}
use Rattle.ftd_machine.specs.declared.kept.KeptAccount.{KeptAccount}
use Rattle.ftd_machine.specs.declared.requests.Correction.{Correction}
use Rattle.ftd_machine.specs.declared.requests.Correction.TheVariants as correction
use Rattle.ftd_machine.specs.declared.requests.Entry.TheVariants as entry
use Rattle.ftd_machine.specs.declared.requests.Request.{Request}
use Rattle.ftd_machine.specs.declared.requests.Request.TheVariants.{Enter}
use Rattle.ftd_entries.specs.Known.{begins_at}
use Rattle.ftd_entries.specs.Standing.{StandsFor}

-- ---- what was read, as entries and corrections

abbrev pub run_number : NumberedRun → ℕ
run_number row = row.number

abbrev pub run_of : List ℕ → NumberedRun → Entry (Voidable PayRun)
run_of name row = record { name = name; key = row.number; content = row.run }

abbrev pub payment_number : NumberedPayment → ℕ
payment_number row = row.number

abbrev pub payment_of : List ℕ → NumberedPayment → Entry (Voidable Payment)
payment_of name row = record { name = name; key = row.number; content = row.payment }

abbrev pub quarter_of : List ℕ → QuarterTotal → Entry Cents
quarter_of name row = record { name = name; key = row.quarter; content = row.cents }

abbrev pub year_total_of : List ℕ → YearTotal → Entry Cents
year_total_of name row = record { name = name; key = row.year; content = row.cents }

abbrev pub account_correction : List ℕ → AccountCorrection → Correction
account_correction name row = correction.Account name (begins_at row)

abbrev pub total_correction : List ℕ → ReturnPeriod → StoredCorrection → Correction
total_correction name period row = correction.Total name period row.cents

abbrev pub line_opened : List ℕ → YearLine → Request
line_opened name line = Enter (entry.Year name line.year)

-- the request by which an account has a row, and the one by which the row is voided, where it is
abbrev pub with_void : {X : Type 0} → (X → Request) → (X → Bool) → (X → Request) → X → List Request
with_void request is_void void row = request row ∷ void_if (is_void row) (void row)

-- the requests of a total of a period: as it was first reported, and as it was put right
abbrev pub total_requests : List ℕ → ReturnPeriod → Cents → List Cents → List Request
total_requests name period first later =
    Enter (entry.Total name period first)
    ∷ corrections (λ cents. correction.Total name period cents) later

-- corrections of one thing, under the numbers from 1 on
abbrev pub with_numbers : List Correction → List Request
with_numbers given = corrections (λ one. one) given

-- ---- the parts of the journal of an account

abbrev pub enrolled_as : List ℕ → Account → Enrolled
enrolled_as name account = record { name = name; account = account }

abbrev pub enrolment_part : List ℕ → Account → State → List Request
enrolment_part name account s = account_enrolled s (enrolled_as name account)

abbrev pub quarters_part : List ℕ → State → List Request
quarters_part name s =
    flat_map (total_reported Quarter s.corrected) (own_by_key name s.reported)

abbrev pub year_totals_part : List ℕ → State → List Request
year_totals_part name s =
    flat_map (total_reported Year s.corrected_years) (own_by_key name s.reported_years)

abbrev pub figures_part : List ℕ → State → List Request
figures_part name s = quarters_part name s ++ year_totals_part name s

abbrev pub years_part : List ℕ → State → List Request
years_part name s = map year_opened (filter (is_of name) s.open_years)

abbrev pub runs_part : List ℕ → State → List Request
runs_part name s = flat_map run_posted (own_by_key name s.runs)

abbrev pub payments_part : List ℕ → State → List Request
payments_part name s = flat_map payment_made (own_by_key name s.payments)

abbrev pub entries_part : List ℕ → State → List Request
entries_part name s = years_part name s ++ runs_part name s ++ payments_part name s

abbrev pub own_part : List ℕ → Account → State → List Request
own_part name account s = account_journal s (enrolled_as name account)

-- the journal of the account of the name, if one has it
abbrev pub journal_of : State → List ℕ → Option (List Request)
journal_of s name =
    option_map (λ account. account_journal s (enrolled_as name account)) (enrolled_in s name)

-- and where none has it, nothing
abbrev pub or_none : Option (List Request) → List Request
or_none None = []
or_none (Some requests) = requests

abbrev pub own_journal : State → List ℕ → List Request
own_journal s name = or_none (journal_of s name)

-- those of all accounts, by name
abbrev pub kept_name : KeptAccount → List ℕ
kept_name x = x.name

abbrev pub accounts_journal : State → List Request
accounts_journal s =
    flat_map (own_journal s) (map name_of (in_order is_account_before s.accounts))

-- ---- what is known of them, in each sound state for which the tables stand

-- the requests of a part stand behind those from before
abbrev pub AddsPart : (State → List Request) → List Request → List Request → Tables → Type 0
AddsPart part before after t =
    (s : State) → StandsFor t s → IsSound s → after ≡ before ++ part s

-- they are the account's runs, and its payments, by number
abbrev pub KnowsRuns : List ℕ → List NumberedRun → Tables → Type 0
KnowsRuns name rows t =
    (s : State) → StandsFor t s → IsSound s → map (run_of name) rows ≡ own_by_key name s.runs

abbrev pub KnowsPayments : List ℕ → List NumberedPayment → Tables → Type 0
KnowsPayments name rows t =
    (s : State) → StandsFor t s → IsSound s
    → map (payment_of name) rows ≡ own_by_key name s.payments

-- they are the journal of the days
abbrev pub KnowsDaysJournal : List Request → Tables → Type 0
KnowsDaysJournal requests t =
    (s : State) → StandsFor t s → IsSound s → requests ≡ days_journal s

-- it is the journal of the account of the name, or no account has it
abbrev pub requests_in : {A : Type 0} → Vec Request A → List Request
requests_in requests = requests.items

abbrev pub KnowsJournal : {A : Type 0} → List ℕ → Option (Vec Request A) → Tables → Type 0
KnowsJournal name found t =
    (s : State) → StandsFor t s → IsSound s → option_map requests_in found ≡ journal_of s name
