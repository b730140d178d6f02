-- One connection more.
use Rattle.std.proofs.Common.{◌≡◌, ℕ, ◌+◌, List, [], ◌∷◌, ◌++◌, length, Option, All}
use Rattle.std.proofs.Common.{Result, Ok, Err, Bool, true, false, not, sym, ap, ◌∙◌, subst}
use Rattle.std.proofs.Common.{append_assoc, append-nil, arith, length-append}
use Rattle.std.specs.Prelude.{OnOk, OnErr}
use Rattle.std.specs.Io.KnownBytes.{Appends}
use Rattle.std.proofs.KnownBytes.{Appends-nil, Appends-trans}
use Rattle.std.proofs.lemmas.List.Elements.{All-nil, All-push}
use Rattle.std.proofs.lemmas.Bool.{not-false}
use Rattle.ftd_ports.specs.declared.writing.WriteFault.{WriteFault}
use Rattle.ftd_ports.specs.Writing.{WritesPrefix}
use Rattle.ftd_connections.specs.declared.outcome.Outcome.{Outcome}
use Rattle.ftd_connections.specs.declared.outcome.Turn.{Turn}
use Rattle.ftd_connections.specs.declared.stop.Stop.{Stop}
use Rattle.ftd_connections.specs.Listening.{HasTaken, IsTold, IsToldMore, IsTurn, none, more}
use Rattle.ftd_connections.specs.Listening.{outcome_line, stop_line, stop_of, turn_lines}

shift : (number : ℕ) (turn : Turn) (turns : List Turn)
    → (number + 1) + length turns ≡ number + length (turn ∷ turns)
shift number turn turns = omega arith

-- the lines with one connection more
pub lines_more : (number : ℕ) (turns : List Turn) (turn : Turn)
    → turn_lines number (turns ++ turn ∷ []) ≡ turn_lines number turns ++ outcome_line
    (number + length turns) turn.outcome
lines_more number [] turn = append-nil (outcome_line number turn.outcome)
    ∙ ap (λ n. outcome_line n turn.outcome) (omega arith)
lines_more number (t ∷ turns) turn =
    ap (λ z. outcome_line number t.outcome ++ z)
    (lines_more (number + 1) turns turn
    ∙ ap (λ n. turn_lines (number + 1) turns ++ outcome_line n turn.outcome)
    (shift number t turns))
    ∙ sym (append_assoc (outcome_line number t.outcome) (turn_lines (number + 1) turns)
    (outcome_line (number + length (t ∷ turns)) turn.outcome))

-- a prefix of what follows a text
pub prefix_after : (before now after : Option (List ℕ)) (text others : List ℕ)
    → Appends before now text → WritesPrefix now after others → WritesPrefix before after
    (text ++ others)
prefix_after before now after text others a p =
    record {
      written = text ++ p.written;
      unwritten = p.unwritten;
      parts = ap (λ z. text ++ z) p.parts ∙ sym (append_assoc text p.written p.unwritten);
      appends = Appends-trans before now after text p.written a p.appends;
    }

-- one line more, after all that was told before
pub told_line : (result : Result (Unit {0}) WriteFault) (now after : Option (List ℕ))
    (failed_now failed_after : Bool) (line : List ℕ)
    → IsTold result now after failed_after line → IsToldMore (Ok _) result now after failed_now
    failed_after line
told_line (Ok done) now after failed_now failed_after line t before text a =
    Appends-trans before now after text line a t
told_line (Err fault) now after failed_now failed_after line t before text a =
    (prefix_after before now after text line a t.0, t.1)

pub told_of : (result : Result (Unit {0}) WriteFault) (now after : Option (List ℕ)) (failed : Bool)
    (line : List ℕ)
    → OnOk result (Appends now after line) → OnErr result (WritesPrefix now after line)
    → OnErr result (failed ≡ true) → IsTold result now after failed line
told_of (Ok done) now after failed line a p f = a
told_of (Err fault) now after failed line a p f = (p, f)

-- nothing is told of a server whose port was
pub told_no_stop : (announced : Result (Unit {0}) Stop) (err : Option (List ℕ)) (failed : Bool)
    → announced ≡ Ok _
    → (told : Result (Unit {0}) WriteFault) × IsTold told err err failed
    (stop_line (stop_of announced))
told_no_stop announced err failed e = (
  Ok _,
  subst (λ r. IsTold (Ok _) err err failed (stop_line (stop_of r))) (sym e)
      (Appends-nil err),
)

module _ {D : Type 0} (serves : D → Outcome → D → Type 0) (asks : D → Bool → D → Type 0) where
  -- the connections taken so far, after each of which the desk answered
  abbrev pub Going : D → D → Result (Unit {0}) WriteFault → Option (List ℕ) → Option (List ℕ) → Bool
      → ℕ → ℕ → Type 0
  Going start now told err_before err_after failed first taken =
      (h : HasTaken serves asks start now told err_before err_after failed first taken)
      × All (λ turn. turn.answers ≡ true) h.turns

  -- before the first connection
  pub takes_none : (desk : D) (err : Option (List ℕ)) (failed : Bool) (first : ℕ)
      → Going desk desk (Ok _) err err failed first first
  takes_none desk err failed first = (
    record { turns = []; count = omega arith; desk = none; lines = Appends-nil err },
    All-nil (λ turn. turn.answers ≡ true),
  )

  module _ (start now after : D) (told result : Result (Unit {0}) WriteFault)
      (err_before err_now err_after : Option (List ℕ)) (failed_now failed_after : Bool)
      (first taken : ℕ) (turn : Turn)
      (going : Going start now told err_before err_now failed_now first taken)
      (took : IsTurn serves asks now turn after)
      (tells : IsToldMore told result err_now err_after failed_now failed_after
      (outcome_line (taken + 1) turn.outcome)) where
    -- one connection more was taken
    pub takes_more : HasTaken serves asks start after result err_before err_after failed_after first
        (taken + 1)
    takes_more =
        let h = going.0 in
        let number : (first + 1) + length h.turns ≡ taken + 1 =
        (let c = h.count in omega arith) in
        let whole : turn_lines (first + 1) h.turns ++ outcome_line (taken + 1) turn.outcome
        ≡ turn_lines (first + 1) (h.turns ++ turn ∷ []) =
        sym (lines_more (first + 1) h.turns turn
        ∙ ap (λ n. turn_lines (first + 1) h.turns ++ outcome_line n turn.outcome) number) in
        record {
          turns = h.turns ++ turn ∷ [];
          count = (let c = h.count in let l = length-append h.turns (turn ∷ []) in omega arith);
          desk = more h.turns now turn after h.desk going.1 took;
          lines = subst (λ z. IsTold result err_before err_after failed_after z) whole
              (tells err_before (turn_lines (first + 1) h.turns) h.lines);
        }

    -- one connection more was taken, after which the desk answered
    pub goes_more : not turn.answers ≡ false
        → Going start after result err_before err_after failed_after first (taken + 1)
    unfolding takes_more
    goes_more answers = (
      takes_more,
      All-push (λ turn. turn.answers ≡ true) going.0.turns turn going.1
          (not-false turn.answers answers),
    )

  -- all connections were taken
  pub takes_all : (start now : D) (told : Result (Unit {0}) WriteFault)
      (err_before err_now : Option (List ℕ)) (failed : Bool) (first taken all : ℕ)
      → Going start now told err_before err_now failed first taken → taken ≡ all
      → (told : Result (Unit {0}) WriteFault)
      × HasTaken serves asks start now told err_before err_now failed first all
  takes_all start now told err_before err_now failed first taken all going same = (
    told,
    subst (λ n. HasTaken serves asks start now told err_before err_now failed first n) same
        going.0,
  )
