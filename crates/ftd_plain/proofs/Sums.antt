-- The sums of the runs that count.
use Rattle.std.proofs.Common.{◌≡◌, ◌⊎◌, inl, inr, ℕ, ◌+◌, ◌-◌, ◌*◌, ◌<◌, ◌≤◌, List, [], ◌∷◌, length}
use Rattle.std.proofs.Common.{map, Option, Some, None, Ok, Bool, true, false, cond, refl, sym}
use Rattle.std.proofs.Common.{ap, ◌∙◌, arith}
use Rattle.std.specs.Prelude.{All, ◌==◌, if◌then◌else◌, option_and_then, option_map, IfSome}
use Rattle.std.specs.List.{cons_option, sum_by}
use Rattle.std.specs.Map.{values_of}
use Rattle.std.specs.Str.{bytes_eq}
use Rattle.std.proofs.lemmas.Bool.Decides.{nat_tests}
use Rattle.std.proofs.lemmas.List.{length-map}
use Rattle.std.proofs.lemmas.List.Elements.{All-map, All-weaker}
use Rattle.std.proofs.lemmas.List.Sums.{sum_by-le}
use Rattle.std.proofs.lemmas.Option.{same_Some}
use Rattle.std.proofs.lemmas.Bool.{and_parts}
use Rattle.ftd_csv.specs.declared.reading.TheConstants.{MOST_BYTES}
use Rattle.ftd_machine.specs.declared.limits.TheConstants.{MOST_ENTRIES}
use Rattle.ftd_days.specs.Calendar.{month_of, year_of, year_start}
use Rattle.ftd_days.proofs.Months.{early_year, in_month, month_start-mono}
use Rattle.ftd_rules.specs.declared.DaySum.{DaySum}
use Rattle.ftd_rules.specs.declared.YearLine.{YearLine}
use Rattle.ftd_rules.specs.Liability.{cents_of as sum_cents}
use Rattle.ftd_rules.specs.Lists.{Has}
use Rattle.ftd_rules.specs.Years.{LiesInYears, basis_of, year_last}
use Rattle.ftd_csv.specs.Answers.{RecordsFail}
use Rattle.ftd_csv.specs.declared.reading.RecordFault.{RecordFault}
use Rattle.ftd_csv.specs.declared.reading.RecordFault.TheVariants as records
use Rattle.ftd_plain.specs.Faults.{text_fault}
use Rattle.ftd_csv.specs.Fields.{amount_of, name_of, run_number_of, spelled, text_in}
use Rattle.ftd_days.specs.Spelling.{cents_of, day_of}
use Rattle.ftd_days.specs.declared.cents.Cents.{Cents}
use Rattle.ftd_machine.specs.declared.requests.Request.TheVariants as request
use Rattle.ftd_verbs.specs.Asked.{◌>>=◌, post}
use Rattle.ftd_verbs.specs.Fields.{needed}
use Rattle.ftd_verbs.specs.declared.field.Field.TheVariants as field
use Rattle.ftd_plain.specs.Plain.{AtFault, FirstFault, IsCalendar, IsLookedAt, PlainFails, Run}
use Rattle.ftd_plain.specs.Plain.{SaidRun, day_sum, enters, is_taken, malformed}
use Rattle.ftd_plain.specs.Plain.{run_records, run_said, taken, taken_run}
use Rattle.ftd_plain.specs.declared.fault.PlainFault.{PlainFault}
use Rattle.ftd_plain.specs.declared.fault.PlainFault.TheVariants as fault
use Rattle.ftd_csv.specs.declared.sheets.Sheet.TheVariants.{Runs}
use Rattle.ftd_csv.specs.Records.{content_by, entry_in, record_rows, records_of}
use Rattle.ftd_csv.specs.declared.entries.Content.{Content}
use Rattle.ftd_csv.specs.declared.entries.Content.TheVariants as content
use Rattle.ftd_plain.specs.Taking.{CalendarFails, IsSmall, TakesAll, StopsAtFault, run_of, runs_of}
use Rattle.ftd_plain.specs.Taking.{sum_of}
use Rattle.ftd_rules.specs.declared.run.PayRun.{PayRun}
use Rattle.ftd_rules.proofs.Members.{mapped_has, has_mapped}
use Rattle.ftd_rules.proofs.Rising.{all_has}
use Rattle.ftd_plain.proofs.Members.{contains_from_has, has_from_contains}
use Rattle.ftd_days.proofs.Spelling.{cents_small}

-- ---- the sums are those of the runs
pub same_sums : (account : List ℕ) (entries : List (ℕ × PayRun)) → map sum_of (values_of entries)
    ≡ map day_sum (runs_of account entries)
same_sums account [] = refl
same_sums account (e ∷ entries) = ap (λ sums. sum_of e.1 ∷ sums) (same_sums account entries)

-- ---- a year with a day in it
pub days_in_year : (year day : ℕ) → year ≤ 2098 → year_of day ≡ year → (year_start year ≤ day)
    × (day ≤ year_last year)
days_in_year year day late e =
    let early = early_year day (omega arith) in
    let is = in_month day (omega arith) in
    let from = is.0 in
    let to = is.1 in
    let begin = month_start-mono (12 * (year - 1900)) (month_of day) (omega arith) in
    let end = month_start-mono (month_of day + 1) (12 * (year - 1900) + 12) (omega arith) in
    (omega arith, omega arith)

-- ---- the amounts of a run that a record says are small
run_same : (a b : Run) → enters a ≡ enters b → a ≡ b
run_same a b e = cc

as_wide : (is : Bool) (said : Content) (run : Run)
    → run_said (if is then said else content.Malformed 0) ≡ enters run → run_said said ≡ enters run
as_wide true said run e = e
as_wide false said run e = cc e

-- the run that six fields say, by what they spell
abbrev six_said : Option (List ℕ) → Option ℕ → Option ℕ → Option Cents → Option Cents
    → Option Cents → Content
six_said name number payday fit ss medicare = content_by Runs (do
  account ← needed field.Account name
  number ← needed field.Run number
  payday ← needed field.Payday payday
  fit ← needed field.Fit fit
  ss ← needed field.Ss ss
  medicare ← needed field.Medicare medicare
  Ok (request.Post account number (record {
    payday = payday;
    fit = fit;
    ss = ss;
    medicare = medicare;
  })))

abbrev IsSmallAmount : Option Cents → Type 0
IsSmallAmount o = IfSome o (λ amount. amount.0 < 100_000_000_000)

amount_small : (o : Option (List ℕ)) → IsSmallAmount (option_and_then amount_of o)
amount_small None = tt
amount_small (Some text) = small (cents_of text) refl
  where
    small : (found : Option ℕ) → cents_of text ≡ found
        → IsSmallAmount (option_map (λ amount. record { 0 = amount }) found)
    small None e = tt
    small (Some amount) e = cents_small text amount e

six_small : (name : Option (List ℕ)) (number payday : Option ℕ) (fit ss medicare : Option Cents)
    (run : Run) → IsSmallAmount fit → IsSmallAmount ss → IsSmallAmount medicare
    → run_said (six_said name number payday fit ss medicare) ≡ enters run → IsSmall run.run
six_small None number payday fit ss medicare run f s m e = cc e
six_small (Some x) None payday fit ss medicare run f s m e = cc e
six_small (Some x) (Some n) None fit ss medicare run f s m e = cc e
six_small (Some x) (Some n) (Some p) None ss medicare run f s m e = cc e
six_small (Some x) (Some n) (Some p) (Some a) None medicare run f s m e = cc e
six_small (Some x) (Some n) (Some p) (Some a) (Some b) None run f s m e = cc e
six_small (Some x) (Some n) (Some p) (Some a) (Some b) (Some c) run f s m e =
    let same = run_same _ run e in rw (← same) (record { fit = f; ss = s; medicare = m })

said_small : (row : List (List ℕ)) (run : Run) → run_said (entry_in Runs row) ≡ enters run
    → IsSmall run.run
unfolding entry_in post
said_small row run e =
    let name = spelled name_of Runs row field.Account in
    let number = spelled run_number_of Runs row field.Run in
    let payday = spelled day_of Runs row field.Payday in
    let fit = spelled amount_of Runs row field.Fit in
    let ss = spelled amount_of Runs row field.Ss in
    let medicare = spelled amount_of Runs row field.Medicare in
    six_small name number payday fit ss medicare run (amount_small (text_in Runs row field.Fit))
    (amount_small (text_in Runs row field.Ss)) (amount_small (text_in Runs row field.Medicare))
    (as_wide (length row == 6) (six_said name number payday fit ss medicare) run e)

-- ---- a run that is taken
taken_of : (account : List ℕ) (year : ℕ) (said : SaidRun) (run : Run)
    → taken_run account year said ≡ Some run → (said ≡ enters run)
    × (is_taken account year run ≡ true)
taken_of account year (malformed place) run e = cc e
taken_of account year (enters r) run e = go (is_taken account year r) refl e
  where
    go : (b : Bool) → is_taken account year r ≡ b → cond b (Some r) None ≡ Some run
        → (enters r ≡ enters run) × (is_taken account year run ≡ true)
    go true is f = let same = same_Some r run f in (ap (λ (z : Run). enters z) same, rw same at is)
    go false is f = cc f

one_taken : (account : List ℕ) (year : ℕ) (said : SaidRun) (o : Option Run) (run : Run)
    (rest : List Run) → taken_run account year said ≡ o → Has (cons_option o rest) run
    → ((said ≡ enters run) × (is_taken account year run ≡ true)) ⊎ Has rest run
one_taken account year said None run rest e h = inr h
one_taken account year said (Some r) run rest e (inl same) =
    inl (taken_of account year said run (e ∙ ap Some (sym same)))
one_taken account year said (Some r) run rest e (inr h) = inr h

taken_said : (account : List ℕ) (year : ℕ) (records : List SaidRun) (run : Run)
    → Has (taken account year records) run → (said : SaidRun) × Has records said
    × (said ≡ enters run)
    × (is_taken account year run ≡ true)
taken_said account year [] run h = absurd h
taken_said account year (said ∷ records) run h =
    elim (one_taken account year said (taken_run account year said) run (taken account year records)
    refl h) [
      | inl here ↦ (said, inl refl, here.0, here.1)
      | inr later ↦ (let (s, there, is, mine) = taken_said account year records run later in
          (s, inr there, is, mine))
    ]

year_is : (account : List ℕ) (year : ℕ) (run : Run) → is_taken account year run ≡ true
    → year_of run.run.payday ≡ year
year_is account year run e =
    let test = (and_parts (bytes_eq run.employer account) (year_of run.run.payday == year) e).1 in
    grind (arith, nat_tests)

-- ---- what is kept
values_has : (entries : List (ℕ × PayRun)) (kept : PayRun) → Has (values_of entries) kept
    → (e : ℕ × PayRun) × Has entries e × (kept ≡ e.1)
values_has [] kept h = absurd h
values_has (e ∷ entries) kept (inl same) = (e, inl refl, same)
values_has (e ∷ entries) kept (inr h) = let (x, there, is) = values_has entries kept h in
    (x, inr there, is)

kept_run : (account : List ℕ) (year : ℕ) (csv : List ℕ) (entries : List (ℕ × PayRun))
    (e : ℕ × PayRun) → TakesAll account year (run_records csv) entries → Has entries e
    → IsSmall e.1 × (year_of e.1.payday ≡ year)
kept_run account year csv entries e all there =
    let run = run_of account e in
    let mine = has_from_contains (taken account year (run_records csv)) run
    ((all.same run).0 (contains_from_has (runs_of account entries) run
    (mapped_has (run_of account) entries e there))) in
    let (said, at, is, taken_it) = taken_said account year (run_records csv) run mine in
    let (told, there, says) = has_mapped run_said (records_of Runs csv) said at in
    let (row, stands, tells) = has_mapped (entry_in Runs) (record_rows csv) told there in (
      said_small row run (sym (says ∙ ap run_said tells) ∙ is),
      year_is account year run taken_it,
    )

pub kept_small : (account : List ℕ) (year : ℕ) (csv : List ℕ)
    (entries : List (ℕ × PayRun)) → TakesAll account year (run_records csv) entries
    → All IsSmall (values_of entries)
kept_small account year csv entries all =
    all_has IsSmall (values_of entries) (λ kept h.
    let (e, there, is) = values_has entries kept h in
    rw is (kept_run account year csv entries e all there).0)

kept_year : (account : List ℕ) (year : ℕ) (csv : List ℕ)
    (entries : List (ℕ × PayRun)) → TakesAll account year (run_records csv) entries
    → All (λ (kept : PayRun). year_of kept.payday ≡ year) (values_of entries)
kept_year account year csv entries all =
    all_has (λ (kept : PayRun). year_of kept.payday ≡ year) (values_of entries) (λ kept h.
    let (e, there, is) = values_has entries kept h in
    ap (λ (k : PayRun). year_of k.payday) is ∙ (kept_run account year csv entries e all there).1)

pub sums_in_year : (account : List ℕ) (year : ℕ) (csv : List ℕ)
    (entries : List (ℕ × PayRun)) (sums : List DaySum)
    → TakesAll account year (run_records csv) entries → sums ≡ map sum_of (values_of entries)
    → All (λ (sum : DaySum). year_of sum.day ≡ year) sums
sums_in_year account year csv entries sums all e =
    rw e (All-map (λ (sum : DaySum). year_of sum.day ≡ year) sum_of (values_of entries)
    (kept_year account year csv entries all))

sum_small : (kept : PayRun) → IsSmall kept → (sum_of kept).cents.0 ≤ 299_999_999_997
sum_small kept small = let a = small.fit in let b = small.ss in let c = small.medicare in
    omega arith

pub sums_small : (account : List ℕ) (year : ℕ) (csv : List ℕ)
    (entries : List (ℕ × PayRun)) (sums : List DaySum)
    → TakesAll account year (run_records csv) entries → sums ≡ map sum_of (values_of entries)
    → All (λ (sum : DaySum). sum.cents.0 ≤ 299_999_999_997) sums
sums_small account year csv entries sums all e =
    rw e (All-map (λ (sum : DaySum). sum.cents.0 ≤ 299_999_999_997) sum_of (values_of entries)
    (All-weaker IsSmall (λ (kept : PayRun). (sum_of kept).cents.0 ≤ 299_999_999_997) sum_small
    (values_of entries) (kept_small account year csv entries all)))

pub sums_few : (entries : List (ℕ × PayRun)) (sums : List DaySum) → length entries ≤ MOST_ENTRIES
    → sums ≡ map sum_of (values_of entries) → length sums ≤ MOST_ENTRIES
sums_few entries sums few e =
    let long = ap length e in
    let a = length-map (values_of entries) sum_of in
    let b = length-map entries (λ (e : ℕ × PayRun). e.1) in
    omega arith

-- ---- what is asked of them
pub lies_in : (line : YearLine) (sums : List DaySum) → line.year ≤ 2098
    → All (λ (sum : DaySum). year_of sum.day ≡ line.year) sums
    → All (λ (sum : DaySum). LiesInYears (line ∷ []) sum.day) sums
lies_in line sums late all =
    All-weaker (λ (sum : DaySum). year_of sum.day ≡ line.year)
    (λ (sum : DaySum). LiesInYears (line ∷ []) sum.day)
    (λ sum e. let within = days_in_year line.year sum.day late e in
    (line, inl refl, within.0, within.1)) sums all

pub whole_sum : (sums : List DaySum) → length sums ≤ MOST_ENTRIES
    → All (λ (sum : DaySum). sum.cents.0 ≤ 299_999_999_997) sums
    → sum_by sum_cents sums < 6_000_000_000_000_000
whole_sum sums few small = let bound = sum_by-le sum_cents 299_999_999_997 sums small in omega arith

pub only_line : (lines : List YearLine) (year lookback : ℕ) (carried : Bool)
    → map basis_of lines ≡ (year, lookback, carried) ∷ [] → (one : YearLine) × (lines ≡ one ∷ [])
    × (one.year ≡ year) × (one.lookback.0 ≡ lookback) × (one.carried ≡ carried)
only_line [] year lookback carried e = cc e
only_line (one ∷ []) year lookback carried e =
    let same : basis_of one ≡ (year, lookback, carried) = cc in (
      one,
      refl,
      ap (λ (g : ℕ × ℕ × Bool). g.0) same,
      ap (λ (g : ℕ × ℕ × Bool). g.1) same,
      ap (λ (g : ℕ × ℕ × Bool). g.2) same,
    )
only_line (one ∷ other ∷ lines) year lookback carried e = cc e

-- ---- the faults of a text that is short enough, and whose holidays are a calendar
never_length : (account : List ℕ) (year : ℕ) (before : List SaidRun) (said : SaidRun)
    → AtFault account year before said fault.TooLong → ⊥
never_length account year before (malformed place) h = cc h
never_length account year before (enters run) h = h.1

never_calendar : (account : List ℕ) (year : ℕ) (before : List SaidRun) (said : SaidRun)
    → AtFault account year before said fault.BadCalendar → ⊥
never_calendar account year before (malformed place) h = cc h
never_calendar account year before (enters run) h = h.1

never_header : (account : List ℕ) (year : ℕ) (before : List SaidRun) (said : SaidRun)
    → AtFault account year before said fault.BadHeader → ⊥
never_header account year before (malformed place) h = cc h
never_header account year before (enters run) h = h.1

record_fault : (csv account : List ℕ) (year : ℕ) (holidays : List ℕ) (f : PlainFault)
    → IsLookedAt csv year holidays → FirstFault account year (run_records csv) f
    → PlainFails csv account year holidays f
record_fault csv account year holidays fault.BadHeader at h =
    absurd (never_header account year h.before h.record_at h.at_fault)
record_fault csv account year holidays fault.TooLong at h =
    absurd (never_length account year h.before h.record_at h.at_fault)
record_fault csv account year holidays (fault.Malformed number place) at h = (at, h)
record_fault csv account year holidays (fault.RunDiffers number) at h = (at, h)
record_fault csv account year holidays fault.TooManyRuns at h = (at, h)
record_fault csv account year holidays fault.BadCalendar at h =
    absurd (never_calendar account year h.before h.record_at h.at_fault)
record_fault csv account year holidays fault.Memory at h = tt

-- why the text has no records
pub text_fails : (csv account : List ℕ) (year : ℕ) (holidays : List ℕ) (f : RecordFault)
    → length csv ≤ MOST_BYTES → IsCalendar year holidays → RecordsFail Runs csv f
    → PlainFails csv account year holidays (text_fault f)
text_fails csv account year holidays records.BadHeader short calendar (_, header) =
    (short, calendar, header)
text_fails csv account year holidays records.TooLong short calendar long = long
text_fails csv account year holidays records.Memory short calendar h = tt

-- why the runs are not taken
pub stops_fault : (csv account : List ℕ) (year : ℕ) (holidays : List ℕ) (f : PlainFault)
    → IsLookedAt csv year holidays → StopsAtFault account year (run_records csv) f
    → PlainFails csv account year holidays f
stops_fault csv account year holidays f at (inl memory) = rw memory tt
stops_fault csv account year holidays f at (inr first) = record_fault csv account year holidays f at
    first

pub calendar_fault_of : (csv account : List ℕ) (year : ℕ) (holidays : List ℕ) (f : PlainFault)
    → length csv ≤ MOST_BYTES → CalendarFails year holidays f
    → PlainFails csv account year holidays f
calendar_fault_of csv account year holidays f short (inl memory) = rw memory tt
calendar_fault_of csv account year holidays f short (inr (bad, wrong)) = rw bad (short, wrong)
