-- A due list that is printed from the desk's rows as they come.
use Rattle.std.proofs.Common.{◌≡◌, inl, inr, ℕ, ◌+◌, ◌≤◌, Bool, List, [], ◌∷◌, ◌++◌, Option, Result}
use Rattle.std.proofs.Common.{Ok, Err, sym, ap, ◌∙◌, subst, arith, append_assoc, append-nil, ◌⊎◌}
use Rattle.std.proofs.Common.{true, false}
use Rattle.std.specs.List.{sum_by}
use Rattle.std.proofs.lemmas.Bool.{cases_Bool}
use Rattle.std.proofs.lemmas.List.Sums.{sum_by-append, sum_by-cons}
use Rattle.ftd_rules.specs.declared.TheConstants.{AMOUNTS_END}
use Rattle.ftd_ports.specs.Writing.{WritesPrefix}
use Rattle.ftd_rules.specs.Verdicts.{amount_of}
use Rattle.ftd_rules.specs.declared.verdict.DueRow.{DueRow}
use Rattle.ftd_answers.specs.DueLists.{due_text}
use Rattle.ftd_answers.specs.DueTexts.{BreaksAt, BreaksIn, HasRows, TakesRow, writer_of}
use Rattle.ftd_answers.specs.declared.due_texts.DueText.{DueText}
use Rattle.ftd_answers.proofs.RowFacts.{first_part}
use Rattle.ftd_machine.specs.Checks.{Answer}
use Rattle.ftd_machine.specs.Runs.{IsFault}
use Rattle.ftd_machine.specs.Refusals.{is_failure}
use Rattle.ftd_machine.specs.declared.replies.Refusal.{Refusal}
use Rattle.ftd_program.specs.Refusals.{refusal_status}
use Rattle.ftd_machine.specs.State.{State}
use Rattle.ftd_questions.specs.Telling.{HasTaken, Tells}
use Rattle.ftd_questions.specs.declared.faults.DueFault.{DueFault}
use Rattle.ftd_questions.specs.declared.faults.DueFault.TheVariants.{Refused, Sink}

module _ {W : Type 0} (taken : W → Option (List ℕ)) (start : Option (List ℕ)) (account : List ℕ)
    (quarter as_of : ℕ) where
  abbrev Has : List DueRow → DueText W → Type 0
  Has rows text = HasRows taken start account quarter as_of rows text

  -- the rows that the text took go with it
  has_more : (done rows : List DueRow) (before after : DueText W) → Has done before
      → HasTaken (TakesRow taken) before rows after → Has (done ++ rows) after
  has_more done [] before after has same = subst (λ t. Has (done ++ []) t) (sym same)
      (subst (λ z. Has z before) (sym (append-nil done)) has)
  has_more done (row ∷ rows) before after has (next, takes, later) =
      subst (λ z. Has z after) (append_assoc done (row ∷ []) rows)
      (has_more (done ++ row ∷ []) rows next after (takes.goes start account quarter as_of done has)
      later)

  pub has_taken : (rows : List DueRow) (before after : DueText W) → Has [] before
      → HasTaken (TakesRow taken) before rows after → Has rows after
  has_taken rows before after has took = has_more [] rows before after has took

  -- the first of the rows were written
  pub has_first : (first rest : List DueRow) (before after : DueText W) → Has [] before
      → HasTaken (TakesRow taken) before first after
      → WritesPrefix start (taken (writer_of after))
      (due_text account quarter as_of (first ++ rest))
  has_first first rest before after has took = first_part taken start account quarter as_of first
      after (has_taken first before after has took) rest

  -- the text failed at a row
  pub has_broken : (failed : W → Bool) (first rest : List DueRow) (row : DueRow)
      (before mid after : DueText W) → Has [] before
      → HasTaken (TakesRow taken) before first mid → BreaksAt taken failed mid row after
      → BreaksIn taken failed start account quarter as_of first row rest after
  has_broken failed first rest row before mid after has took broke =
      broke.breaks start account quarter as_of first rest (has_taken first before mid has took)

-- the amounts of the rows come to the bound
pub come_to : (first rest : List DueRow) (row : DueRow)
    → AMOUNTS_END ≤ sum_by amount_of first + amount_of row → AMOUNTS_END ≤ sum_by amount_of
    (first ++ row ∷ rest)
come_to first rest row over =
    let parts = sum_by-append amount_of first (row ∷ rest) in
    let one = sum_by-cons amount_of row rest in
    omega (arith, over)

-- a text that had not failed failed since its writer did
pub worked : {Q : Type 0} (fails : Bool) → fails ≡ false → (fails ≡ true) ⊎ Q → Q
worked true works fault = absurd (cc)
worked false works (inl fails) = absurd (cc)
worked false works (inr fact) = fact

-- a fault has status 3
abbrev status_in : Answer → ℕ
status_in (Ok reply) = 3
status_in (Err refusal) = refusal_status refusal

pub fault_status : (refusal : Refusal) → IsFault (Err refusal) → refusal_status refusal ≡ 3
fault_status refusal (inl memory) = ap status_in memory
fault_status refusal (inr store) = ap status_in store

-- no refusal has status 0
pub some_status : (refusal : Refusal) → refusal_status refusal ≡ 0 → ⊥
some_status refusal zero = elim (cases_Bool (is_failure refusal)) [
  | inl is ↦ let e = rw is at zero in omega arith
  | inr not ↦ let e = rw not at zero in omega arith
]

-- what is told of a list that was refused, or at which the sink failed
module _ {K : Type 0} (took broke : K → DueRow → K → Type 0) (s : State) (name : List ℕ)
    (quarter as_of : ℕ) (old new : K) (r : Result (Unit {0}) DueFault) (f : DueFault)
    (is : r ≡ Err f) where
  pub as_refused : (refusal : Refusal) → f ≡ Refused refusal
      → Tells took broke s name quarter as_of old new r
      → Tells took broke s name quarter as_of old new (Err (Refused refusal))
  as_refused refusal which tells = subst (λ x. Tells took broke s name quarter as_of old new x)
      (is ∙ ap Err which) tells

  pub as_sink : f ≡ Sink → Tells took broke s name quarter as_of old new r
      → Tells took broke s name quarter as_of old new (Err Sink)
  as_sink which tells = subst (λ x. Tells took broke s name quarter as_of old new x)
      (is ∙ ap Err which) tells
