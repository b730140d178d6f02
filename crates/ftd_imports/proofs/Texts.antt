-- The records of a text, in lists.
use Rattle.std.proofs.Common.{◌≡◌, ◌⊎◌, sym, subst, inl, inr, rules, ℕ, List, Some, Ok, Err}
use Rattle.ftd_csv.specs.Answers.{RecordsFail}
use Rattle.ftd_csv.specs.Places.{Opens, records_left}
use Rattle.ftd_csv.specs.declared.reading.Records.{Records}
use Rattle.ftd_csv.specs.declared.reading.RecordFault.{RecordFault}
use Rattle.ftd_csv.specs.declared.reading.RecordFault.TheVariants as text_fault
use Rattle.ftd_csv.specs.declared.entries.Content.{Content}
use Rattle.ftd_csv.specs.declared.sheets.Sheet.{Sheet}
use Rattle.ftd_csv.proofs.Left.{records_first}
use Rattle.ftd_machine.specs.Checks.{Answer}
use Rattle.ftd_machine.specs.declared.replies.Refusal.TheVariants as refusal
use Rattle.ftd_desk.specs.Desks.{Held}
use Rattle.ftd_desk.proofs.Running.{all_none}
use Rattle.ftd_imports.specs.Outcomes.{Counts, IsNothing, Outcome, fault_of, posted, skipped}
use Rattle.ftd_imports.specs.Outcomes.{text_cause}
use Rattle.ftd_imports.specs.Imports.{AreOutcomes, Imports, IsStop, Posts, StopsAmong, StopsFor}
use Rattle.ftd_imports.specs.Imports.{StopsWithin, numbered_in}
use Rattle.ftd_imports.specs.declared.summary.StopCause.{StopCause}
use Rattle.ftd_imports.specs.declared.summary.StopCause.TheVariants as cause
use Rattle.ftd_imports.specs.declared.summary.Summary.{Summary}
use Rattle.ftd_imports.proofs.Again.{stops_told}
use Rattle.ftd_imports.proofs.Outcomes.{summary_of}

-- there are no records
pub text_fails : (failed : Type 0) (a : Held) (kind : Sheet) (text : List ℕ) (done : Summary)
    (fault : RecordFault) (why : StopCause) → why ≡ text_cause fault → IsNothing done
    → RecordsFail kind text fault → StopsFor failed a a kind text done why
text_fails failed a kind text done text_fault.TooLong why is none fails =
    rw is (fails, (none, all_none ⊥ a))
text_fails failed a kind text done text_fault.BadHeader why is none fails =
    rw is (fails.0, fails.1, (none, all_none ⊥ a))
text_fails failed a kind text done text_fault.Memory why is none fails =
    rw is (inl (none, all_none ⊥ a))

-- an import stops at a record for want of memory, or since the store failed
fault_cause : (answer : Answer) (why : StopCause) → fault_of answer ≡ Some why
    → (why ≡ cause.Memory) ⊎ (why ≡ cause.Store)
fault_cause (Ok reply) why is = absurd (cc)
fault_cause (Err refusal.Memory) why is = inl (cc)
fault_cause (Err refusal.Store) why is = inr (cc)
fault_cause (Err other) why is = search rules

stop_cause : (at : ℕ × Content) (why : StopCause) (last : List Outcome) → IsStop at why last
    → (why ≡ cause.Memory) ⊎ (why ≡ cause.Store)
stop_cause at why last (inl none) = inl none.0
stop_cause at why last (inr (posted number it answer, one, of, fault)) =
    fault_cause answer why fault
stop_cause at why last (inr (skipped number field, one, of, fault)) = absurd (cc)

module _ (kind : Sheet) (text : List ℕ) (records : Records) (opens : Opens kind text records)
    (a b : Held) (p q : Summary) (none : IsNothing p) where
  all : records_left records ≡ numbered_in kind text
  all = records_first kind text records opens

  pub text_posts : Posts a b (records_left records) p q → Imports a b kind text q
  text_posts posts = record {
    short = opens.short;
    header = opens.header;
    outcomes = posts.outcomes;
    are = subst (λ (rs : List (ℕ × Content)). AreOutcomes rs posts.outcomes) all posts.are;
    summary_is = summary_of p q posts.outcomes none posts.counts;
    asks = posts.asks;
  }

  pub text_stops : (failed : Type 0) (why : StopCause)
      → StopsWithin failed a b (records_left records) (λ outcomes. Counts p outcomes q) why
      → StopsFor failed a b kind text q why
  text_stops failed why stops =
      let among : StopsAmong failed a b kind text q why = record {
        short = opens.short;
        header = opens.header;
        stops = stops_told failed a b (numbered_in kind text) p q why none
            (subst (λ (rs : List (ℕ × Content)). StopsWithin failed a b rs
            (λ outcomes. Counts p outcomes q) why) all stops);
      } in
      elim (stop_cause stops.at why stops.last stops.stop) [
        | inl memory ↦ subst (λ (c : StopCause). StopsFor failed a b kind text q c) (sym memory)
            (inr (subst (λ (c : StopCause). StopsAmong failed a b kind text q c) memory among))
        | inr store ↦ subst (λ (c : StopCause). StopsFor failed a b kind text q c) (sym store)
            (subst (λ (c : StopCause). StopsAmong failed a b kind text q c) store among)
      ]
