use Rattle.std.proofs.Common.{◌≡◌, ◌-◌, [], sym, arith}
use Rattle.ftd_csv.specs.Places.{Advances}
use Rattle.ftd_ports.proofs.WritingFacts.{begins, ends, goes_on, stops_after}
use Rattle.ftd_csv.specs.HintPlaces.{hints_left}
use Rattle.ftd_csv.proofs.HintsLeft.{none_left, none_wanted, past_bad}
use Rattle.ftd_csv.proofs.records.write_hints_of.Goals as goal

pub loop-left-init : goal.loop-left-init
loop-left-init g c = record { can = c.requires; written = begins }

pub returns-in_err-write_hint-clause-err : goal.returns-in_err-write_hint-clause-err
returns-in_err-write_hint-clause-err g c =
    let goes : Advances c.loop-left.records c.advance.new.self =
    rw c.if-branch.true at c.in_ok-advance.ensures in
    let bad = rw c.in-Malformed.is at (sym c.in_ok-field.ensures) in
    let stops = stops_after {r = c.from_residual-in_err-write_hint.result} _
    c.from_residual-in_err-write_hint.ensures.0 c.loop-left.invariant.written
    (past_bad _ (c.loop-left.left - 1) _ _ _ goes bad (omega arith)) c.in_err-write_hint.ensures in
    stops.err

pub loop-left-preserved-in-Malformed : goal.loop-left-preserved-in-Malformed
loop-left-preserved-in-Malformed g c =
    let goes : Advances c.loop-left.records c.advance.new.self =
    rw c.if-branch.true at c.in_ok-advance.ensures in
    let bad = rw c.in-Malformed.is at (sym c.in_ok-field.ensures) in
    record {
      can = goes.can;
      written = goes_on _ _ c.loop-left.invariant.written
          (past_bad _ (c.loop-left.left - 1) _ _ _ goes bad (omega arith))
          c.in_ok-write_hint.ensures.ok;
    }

pub returns-clause-ok : goal.returns-clause-ok
returns-clause-ok g c =
    let nothing : hints_left c.loop-left.left c.loop-left.records ≡ [] =
    elim c.loop-left-test.branch [
      | goal.then-loop-left-test+in_ok-advance+else-branch w ↦ none_left c.loop-left.left
          c.loop-left.records (rw w.if-branch.false at w.in_ok-advance.ensures)
      | goal.else-loop-left-test w ↦ none_wanted c.loop-left.left c.loop-left.records
          w.loop-left-test.false
    ] in
    ends (rw nothing at c.loop-left.invariant.written)
