-- Records that are answered, and not posted.
use Rattle.std.proofs.Common.{◌≡◌, ◌∙◌, ◌++◌, [], sym, subst, ap, ℕ, List, length}
use Rattle.std.proofs.Common.{arith}
use Rattle.std.proofs.lemmas.List.{append-nil}
use Rattle.ftd_csv.specs.Places.{Opens, records_left, rows_after}
use Rattle.ftd_csv.specs.declared.entries.Content.{Content}
use Rattle.ftd_csv.specs.declared.reading.Records.{Records}
use Rattle.ftd_csv.specs.declared.sheets.Sheet.{Sheet}
use Rattle.ftd_csv.proofs.Left.{records_first}
use Rattle.ftd_desk.specs.Desks.{Held}
use Rattle.ftd_csv.specs.Lists.{TakesList}
use Rattle.ftd_imports.specs.Outcomes.{IsNothing}
use Rattle.ftd_imports.specs.Imports.{AreOutcomes}
use Rattle.ftd_imports.specs.Trials.{WouldImport, WouldPost}
use Rattle.ftd_csv.specs.declared.lists.RecordList.{RecordList}
use Rattle.ftd_imports.specs.declared.summary.Summary.{Summary}
use Rattle.ftd_imports.proofs.Counting.{nothing}
use Rattle.ftd_imports.proofs.Outcomes.{summary_of}
use Rattle.ftd_csv.proofs.RecordLists.{left_count, length_left}

-- as many as were left were taken: they are all of them
pub all_taken : (old new : Records) (list : RecordList) (count : ℕ)
    (takes : TakesList old new count list) → count ≡ length (rows_after old)
    → takes.taken ≡ records_left old
all_taken old new list count takes whole =
    let left = left_count old new takes.taken takes.split in
    let counted = takes.counted in
    let long = length_left new in
    let none : records_left new ≡ [] = nothing (records_left new) (omega arith) in
    sym (append-nil takes.taken)
    ∙ ap (λ (rs : List (ℕ × Content)). takes.taken ++ rs) (sym none) ∙ sym takes.split

-- all records of a text would be posted so
pub would_import : (a b : Held) (kind : Sheet) (text : List ℕ) (records : Records)
    (rs : List (ℕ × Content)) (p q : Summary) → Opens kind text records
    → rs ≡ records_left records → IsNothing p → WouldPost a b rs p q → WouldImport a b kind text q
would_import a b kind text records rs p q opens all none would = record {
  short = opens.short;
  header = opens.header;
  outcomes = would.outcomes;
  are = subst (λ (xs : List (ℕ × Content)). AreOutcomes xs would.outcomes)
      (all ∙ records_first kind text records opens) would.are;
  summary_is = summary_of p q would.outcomes none would.counts;
  would = would.would;
}
