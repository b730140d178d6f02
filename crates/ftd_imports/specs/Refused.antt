-- The records of an import that the desk refused.
use Rattle.std.specs.Prelude.{ℕ, List, Option, None, Some, Ok, Err, option_map}
use Rattle.ftd_machine.specs.Checks.{Answer}
use Rattle.ftd_machine.specs.declared.replies.Refusal.{Refusal}
use Rattle.ftd_machine.specs.declared.requests.Entry.TheVariants as entry
use Rattle.ftd_machine.specs.declared.requests.Request.{Request}
use Rattle.ftd_machine.specs.declared.requests.Request.TheVariants as request
use Rattle.ftd_imports.specs.declared.refusals.RecordEntry.{RecordEntry}
use Rattle.ftd_imports.specs.declared.refusals.RecordEntry.TheVariants as record_entry
use Rattle.ftd_imports.specs.declared.refusals.RefusedRecord.{RefusedRecord}

-- the employer that a record names, and what it is to enter, by its post; none of a request by
-- which no record is posted
abbrev pub posted_entry : Request → Option (List ℕ × RecordEntry)
posted_entry (request.Post account number run) = Some (account, record_entry.Run number run)
posted_entry (request.Enter (entry.Account name account)) =
    Some (name, record_entry.Account account)
posted_entry (request.Enter (entry.Total account period cents)) =
    Some (account, record_entry.Total period)
posted_entry (request.Pay account number payment) =
    Some (account, record_entry.Payment number payment)
posted_entry other = None

-- the record of this number, and why it was refused
abbrev pub refused_record : ℕ → Refusal → List ℕ × RecordEntry → RefusedRecord
refused_record number why (employer, it) = record {
  number = number;
  employer = employer;
  entry = it;
  refusal = why;
}

-- so where it was
abbrev pub refused_by : ℕ → Request → Answer → Option RefusedRecord
refused_by number it (Ok told) = None
refused_by number it (Err why) = option_map (refused_record number why) (posted_entry it)
