-- The text of an import's summary, and its exit status.
use Rattle.std.specs.Prelude.{ℕ, ◌==◌, ◌&&◌, if◌then◌else◌, List, [], ◌∷◌, ◌++◌, codes}
use Rattle.std.specs.Fmt.{decimal}
use Rattle.std.specs.List.{concat, flat_map}
use Rattle.ftd_csv.specs.declared.sheets.Sheet.{Sheet}
use Rattle.ftd_imports.specs.declared.summary.Finding.{Finding}
use Rattle.ftd_imports.specs.declared.summary.Finding.TheVariants.{Malformed, Refused}
use Rattle.ftd_imports.specs.declared.summary.Note.{Note}
use Rattle.ftd_imports.specs.declared.summary.StopCause.{StopCause}
use Rattle.ftd_imports.specs.declared.summary.StopCause.TheVariants as cause
use Rattle.ftd_imports.specs.declared.summary.Summary.{Summary}
use Rattle.ftd_csv.specs.Headers.{header_hint}
use Rattle.ftd_replies.specs.Refusals.{refusal_text}

-- `posted 2 already 0 refused 0 malformed 1`
unfoldable pub counts_text : Summary → List ℕ
counts_text summary =
    concat (codes "posted " ∷ decimal summary.posted ∷ codes " already " ∷ decimal summary.already
    ∷ codes " refused " ∷ decimal summary.refused ∷ codes " malformed "
    ∷ decimal summary.malformed ∷ (10 ∷ []) ∷ [])

-- `record 4 `
unfoldable pub record_text : ℕ → List ℕ
record_text number = concat (codes "record " ∷ decimal number ∷ codes " " ∷ [])

-- `malformed field 3`, or the line of a refusal
unfoldable pub field_text : ℕ → List ℕ
field_text field = concat (codes "malformed field " ∷ decimal field ∷ (10 ∷ []) ∷ [])

abbrev pub finding_text : Finding → List ℕ
finding_text (Malformed field) = field_text field
finding_text (Refused refusal) = refusal_text refusal

unfoldable pub note_text : Note → List ℕ
note_text note = record_text note.number ++ finding_text note.finding

-- the counts, and a line for each note
unfoldable pub summary_text : Summary → List ℕ
summary_text summary = counts_text summary ++ flat_map note_text summary.notes.items

-- 1 where a record was refused or malformed
abbrev pub summary_status : Summary → ℕ
summary_status summary = if summary.refused == 0 && summary.malformed == 0 then 0 else 1

-- `refused header`, and its hint
unfoldable pub bad_header_text : Sheet → List ℕ → List ℕ
bad_header_text kind input = codes "refused header\n" ++ header_hint kind input

-- why an import of this text stopped, with the hint of a bad header, and its status
abbrev pub stop_text : Sheet → List ℕ → StopCause → List ℕ
stop_text kind input cause.BadHeader = bad_header_text kind input
stop_text kind input cause.TooLong = codes "refused length\n"
stop_text kind input cause.Memory = codes "failed 21 Memory\n"
stop_text kind input cause.Store = codes "failed 22 Store\n"

abbrev pub stop_status : StopCause → ℕ
stop_status cause.BadHeader = 1
stop_status cause.TooLong = 1
stop_status cause.Memory = 3
stop_status cause.Store = 3
