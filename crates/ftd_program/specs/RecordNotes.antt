-- What is said below the summary of an import of the records that were refused: of each kind of
-- refusal the first 20 records, and how many more there are.
use Rattle.std.specs.Prelude.{◌≡◌, ◌==◌, ◌++◌, ℕ, List, [], ◌∷◌, Option, None, Some, Result, Ok}
use Rattle.std.specs.Prelude.{Err, IfErr, IfOk, codes, drop}
use Rattle.std.specs.Prelude.{filter, if◌then◌else◌, length, map, nat_lt}
use Rattle.std.specs.Borrow.{Bor}
use Rattle.std.specs.Fmt.{decimal}
use Rattle.std.specs.List.{concat, flat_map, range_with_len}
use Rattle.sqlite.specs.State.{HasCleanDisk}
use Rattle.ftd_machine.specs.declared.entries.ReturnPeriod.TheVariants as period
use Rattle.ftd_days.specs.Text.{quarter_text}
use Rattle.ftd_desk.specs.Desks.{Held, KeepsIfOpen}
use Rattle.ftd_desk.specs.Telling.{StandsAsBefore}
use Rattle.ftd_imports.specs.declared.refusals.RecordEntry.{RecordEntry}
use Rattle.ftd_imports.specs.declared.refusals.RecordEntry.TheVariants as entry
use Rattle.ftd_imports.specs.declared.refusals.RefusedRecord.{RefusedRecord}
use Rattle.ftd_machine.specs.Refusals.{name_text, number_of}
use Rattle.ftd_machine.specs.Runs.{IsFault}
use Rattle.ftd_machine.specs.State.{State}
use Rattle.ftd_machine.specs.declared.replies.Refusal.{Refusal}
use Rattle.ftd_machine.specs.declared.replies.Refusal.TheVariants.{AccountDiffers, RunDiffers}
use Rattle.ftd_machine.specs.declared.replies.Refusal.TheVariants.{PaymentDiffers}
use Rattle.ftd_ports.specs.Writing.{WritesPrefix}
use Rattle.ftd_replies.specs.Differing.{difference_text}
use Rattle.ftd_replies.specs.declared.differing.Differing.{Differing}
use Rattle.ftd_program.specs.Differences.{account_difference, payment_difference}
use Rattle.ftd_program.specs.Differences.{run_difference}
use Rattle.ftd_program.specs.declared.record_notes.RecordLine.{RecordLine}
use Rattle.ftd_program.specs.declared.record_notes.RecordLine.TheVariants.{Record, More}

-- ---- what is known of the records

-- where a run, a payment or an account was refused since another one has its number or its name: in
-- what it differs
abbrev pub entry_difference : State → List ℕ → ℕ → RecordEntry → Option Differing
entry_difference s employer refused (entry.Run number run) =
    if refused == number_of RunDiffers then run_difference s employer number run else None
entry_difference s employer refused (entry.Payment number payment) =
    if refused == number_of PaymentDiffers then payment_difference s employer number payment
    else None
entry_difference s employer refused (entry.Account account) =
    if refused == number_of AccountDiffers then account_difference s employer account else None
entry_difference s employer refused (entry.Total total) = None

abbrev pub record_line : State → RefusedRecord → RecordLine
record_line s it =
    Record it.number it.employer it.entry
    (entry_difference s it.employer (number_of it.refusal) it.entry)

-- the records that are referred to
abbrev pub records_in : List (Bor RefusedRecord) → List RefusedRecord
records_in those = map (λ (it : Bor RefusedRecord). it.now) those

-- the records whose refusal has this number
abbrev pub of_kind : ℕ → List RefusedRecord → List RefusedRecord
of_kind kind records = filter (λ it. number_of it.refusal == kind) records

-- the records to which fewer than 20 of their kind are before them, behind these
abbrev pub told_after : List RefusedRecord → List RefusedRecord → List RefusedRecord
told_after before [] = []
told_after before (it ∷ records) =
    (if nat_lt (length (of_kind (number_of it.refusal) before)) 20 then it ∷ [] else [])
    ++ told_after (before ++ it ∷ []) records

-- of each kind the first 20, all in the order of the records
abbrev pub told_of : List RefusedRecord → List RefusedRecord
told_of records = told_after [] records

-- how many more there are, if there are any
abbrev pub more_lines : List RefusedRecord → List RecordLine
more_lines [] = []
more_lines (it ∷ records) = More (length (it ∷ records)) it.refusal ∷ []

abbrev pub more_of_kind : List RefusedRecord → ℕ → List RecordLine
more_of_kind records kind = more_lines (drop 20 (of_kind kind records))

-- of each kind how many more there are; refusals have the numbers 1 to 29
abbrev pub more_of : List RefusedRecord → List RecordLine
more_of records = flat_map (more_of_kind records) (range_with_len 1 29)

abbrev pub record_lines : State → List RefusedRecord → List RecordLine
record_lines s records = map (record_line s) (told_of records) ++ more_of records

-- ---- their text

-- which entry of the employer it is: ` run 7`, ` payment 7`, ` 2024Q1`, ` 2024`, or nothing
abbrev pub entry_text : RecordEntry → List ℕ
entry_text (entry.Run number run) = codes " run " ++ decimal number
entry_text (entry.Payment number payment) = codes " payment " ++ decimal number
entry_text (entry.Account account) = []
entry_text (entry.Total (period.Quarter quarter)) = codes " " ++ quarter_text quarter
entry_text (entry.Total (period.Year year)) = codes " " ++ decimal year

-- `note: record 15, elm`
unfoldable pub owner_text : ℕ → List ℕ → List ℕ
owner_text number employer =
    concat (codes "note: record " ∷ decimal number ∷ codes ", " ∷ employer ∷ [])

-- in what it differs, if that is known
abbrev pub known_text : Option Differing → List ℕ
known_text None = codes "\n"
known_text (Some differing) = codes ": " ++ (difference_text differing ++ codes "\n")

-- `note: record 15, elm run 7: fit is 510.00, posted with 500.00`
unfoldable pub record_text : ℕ → List ℕ → RecordEntry → Option Differing → List ℕ
record_text number employer it known =
    owner_text number employer ++ (entry_text it ++ known_text known)

-- `note: and 37 more records: refused 7 UnknownAccount`
unfoldable pub count_text : ℕ → ℕ → List ℕ
count_text count number =
    concat (codes "note: and " ∷ decimal count ∷ codes " more records: refused " ∷ decimal number
    ∷ codes " " ∷ [])

unfoldable pub more_text : ℕ → Refusal → List ℕ
more_text count refusal =
    count_text count (number_of refusal) ++ (name_text refusal ++ codes "\n")

abbrev pub line_text : RecordLine → List ℕ
line_text (Record number employer it known) = record_text number employer it known
line_text (More count refusal) = more_text count refusal

-- nothing where a fault came
abbrev pub lines_text : Result (List RecordLine) Refusal → List ℕ
lines_text (Ok lines) = flat_map line_text lines
lines_text (Err fault) = []

-- the lines were put on standard error as far as it took them, with what is known of each state
-- that the desk stood for; the desk stands for it still
pub record PutsRefusals {E : Type 0} (e_taken : E → Option (List ℕ)) (err after : E)
    (old new : Held) (records : List RefusedRecord) : Type 0 where
  pub told : Result (List RecordLine) Refusal
  pub knows : HasCleanDisk new.db → (s : State) → KeepsIfOpen old s
      → IfOk told (λ lines. lines ≡ record_lines s records)
  pub fault : IfErr told (λ fault. IsFault (Err fault))
  pub put : WritesPrefix (e_taken err) (e_taken after) (lines_text told)
  pub none : records ≡ [] → after ≡ err
  pub stands : StandsAsBefore old new
