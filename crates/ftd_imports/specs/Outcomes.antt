-- What becomes of the records of an import, and the summary of it.
use Rattle.std.specs.Prelude.{◌≡◌, ◌+◌, ◌++◌, ℕ, Bool, true, false, List, [], length, map, Option}
use Rattle.std.specs.Prelude.{None, Some, Ok, Err}
use Rattle.std.specs.List.{filter, filter_map}
use Rattle.ftd_csv.specs.declared.entries.Content.{Content}
use Rattle.ftd_csv.specs.declared.entries.Content.TheVariants as content
use Rattle.ftd_csv.specs.declared.reading.RecordFault.{RecordFault}
use Rattle.ftd_csv.specs.declared.reading.RecordFault.TheVariants as text_fault
use Rattle.ftd_machine.specs.Checks.{Answer}
use Rattle.ftd_machine.specs.declared.replies.Reply.TheVariants as reply
use Rattle.ftd_machine.specs.declared.replies.Refusal.TheVariants as refusal
use Rattle.ftd_machine.specs.declared.requests.Request.{Request}
use Rattle.ftd_imports.specs.declared.changes.AccountChange.{AccountChange}
use Rattle.ftd_imports.specs.declared.summary.Finding.TheVariants.{Malformed, Refused}
use Rattle.ftd_imports.specs.declared.summary.Note.{Note}
use Rattle.ftd_imports.specs.declared.summary.StopCause.{StopCause}
use Rattle.ftd_imports.specs.declared.summary.StopCause.TheVariants as cause
use Rattle.ftd_imports.specs.declared.summary.Summary.{Summary}
use Rattle.ftd_imports.specs.Changed.{change_of}
use Rattle.ftd_imports.specs.Collections.{Collects, Follow}
use Rattle.ftd_imports.specs.Refused.{refused_by}
use Rattle.ftd_imports.specs.declared.refusals.RefusedRecord.{RefusedRecord}

-- what became of the record of this number: its entry was posted and answered so, or it was left
-- out, malformed at this field
pub data Outcome : Type 0 where
  posted : ℕ → Request → Answer → Outcome
  skipped : ℕ → ℕ → Outcome

abbrev pub record_in : Outcome → ℕ × Content
record_in (posted number it answer) = (number, content.Entry it)
record_in (skipped number field) = (number, content.Malformed field)

-- what was asked of the desk, and what it answered
abbrev pub request_in : Outcome → Option Request
request_in (posted number it answer) = Some it
request_in (skipped number field) = None

abbrev pub answer_in : Outcome → Option Answer
answer_in (posted number it answer) = Some answer
answer_in (skipped number field) = None

-- it was posted, was there already, was refused, was malformed
abbrev pub is_posted : Answer → Bool
is_posted (Ok reply.Done) = true
is_posted (Ok (reply.Posted difference)) = true
is_posted other = false

abbrev pub is_already : Answer → Bool
is_already (Ok reply.Already) = true
is_already other = false

abbrev pub is_refused : Answer → Bool
is_refused (Ok told) = false
is_refused (Err why) = true

abbrev pub was_posted : Outcome → Bool
was_posted (posted number it answer) = is_posted answer
was_posted (skipped number field) = false

abbrev pub was_already : Outcome → Bool
was_already (posted number it answer) = is_already answer
was_already (skipped number field) = false

abbrev pub was_refused : Outcome → Bool
was_refused (posted number it answer) = is_refused answer
was_refused (skipped number field) = false

abbrev pub was_malformed : Outcome → Bool
was_malformed (posted number it answer) = false
was_malformed (skipped number field) = true

-- the note of a record that was refused or malformed
abbrev pub note_of : ℕ → Answer → Option Note
note_of number (Ok told) = None
note_of number (Err why) = Some (record { number = number; finding = Refused why })

abbrev pub note_in : Outcome → Option Note
note_in (posted number it answer) = note_of number answer
note_in (skipped number field) = Some (record { number = number; finding = Malformed field })

-- how the post of a record changed the obligations of its account
abbrev pub change_in : Outcome → Option AccountChange
change_in (posted number it answer) = change_of it answer
change_in (skipped number field) = None

-- the record, where its post was refused
abbrev pub refusal_in : Outcome → Option RefusedRecord
refusal_in (posted number it answer) = refused_by number it answer
refusal_in (skipped number field) = None

-- the cause by which an answer stops an import: there was no memory, or the store failed
abbrev pub fault_of : Answer → Option StopCause
fault_of (Err refusal.Memory) = Some cause.Memory
fault_of (Err refusal.Store) = Some cause.Store
fault_of other = None

abbrev pub fault_in : Outcome → Option StopCause
fault_in (posted number it answer) = fault_of answer
fault_in (skipped number field) = None

-- why there are no records
abbrev pub text_cause : RecordFault → StopCause
text_cause text_fault.BadHeader = cause.BadHeader
text_cause text_fault.TooLong = cause.TooLong
text_cause text_fault.Memory = cause.Memory

-- a summary after some more records with these outcomes
pub record Counts (before : Summary) (outcomes : List Outcome) (after : Summary) : Type 0 where
  pub posted_are : after.posted ≡ before.posted + length (filter was_posted outcomes)
  pub already_are : after.already ≡ before.already + length (filter was_already outcomes)
  pub refused_are : after.refused ≡ before.refused + length (filter was_refused outcomes)
  pub malformed_are : after.malformed ≡ before.malformed + length (filter was_malformed outcomes)
  pub notes_are : after.notes.items ≡ before.notes.items ++ filter_map note_in outcomes
  pub refusals_are : Follow before.refusals (filter_map refusal_in outcomes) after.refusals
  pub changes_are : Follow before.changes (filter_map change_in outcomes) after.changes

-- a summary after some more records, whose posts were answered so
pub record CountsAnswers (before : Summary) (records : List (ℕ × Content)) (answers : List Answer)
    (after : Summary) : Type 0 where
  pub outcomes : List Outcome
  pub all : map record_in outcomes ≡ records
  pub answered : filter_map answer_in outcomes ≡ answers
  pub counts : Counts before outcomes after

-- the summary of records with these outcomes
pub record IsSummary (outcomes : List Outcome) (summary : Summary) : Type 0 where
  pub posted_are : summary.posted ≡ length (filter was_posted outcomes)
  pub already_are : summary.already ≡ length (filter was_already outcomes)
  pub refused_are : summary.refused ≡ length (filter was_refused outcomes)
  pub malformed_are : summary.malformed ≡ length (filter was_malformed outcomes)
  pub notes_are : summary.notes.items ≡ filter_map note_in outcomes
  pub refusals_are : Collects summary.refusals (filter_map refusal_in outcomes)
  pub changes_are : Collects summary.changes (filter_map change_in outcomes)

-- of no records
abbrev pub IsNothing : Summary → Type 0
IsNothing summary = IsSummary [] summary

-- they say the same
abbrev pub IsSame : Summary → Summary → Type 0
IsSame before after = Counts before [] after

-- how many records are counted
abbrev pub tally : Summary → ℕ
tally summary = summary.posted + summary.already + summary.refused + summary.malformed

-- no more than a number holds
abbrev pub most_counted : ℕ
most_counted = 18_446_744_073_709_551_615
