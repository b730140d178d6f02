use Rattle.std.proofs.lemmas.Result.{err_from_is_err_and}
use Rattle.ftd_plain.specs.Taking.{runs_left}
use Rattle.ftd_plain.proofs.TakingFacts.{runs_next, taken_all, taken_first, taken_next}
use Rattle.ftd_plain.proofs.TakingFacts.{taken_stops}
use Rattle.ftd_plain.proofs.runs.take_records.Goals as goal

pub loop-runs-init : goal.loop-runs-init
loop-runs-init c = record {
  can = c.requires.can;
  ordered = c.new-runs.ensures.ordered;
  taken = rw (c.requires.first, c.new-runs.ensures.empty)
      (taken_first c.args.account.now c.args.year (runs_left c.args.records.now));
}

pub loop-runs-preserved-in_ok-take_content-6 : goal.loop-runs-preserved-in_ok-take_content-6
loop-runs-preserved-in_ok-take_content-6 c =
    let next = rw c.if-branch.true at c.in_ok-advance.ensures in
    let taken = rw (runs_next _ _ next, ← next.number) at c.loop-runs.invariant.taken in
    record {
      can = next.can;
      ordered = c.take_content.ensures.ordered;
      taken = taken_next c.args.account.now c.args.year _ _ _ _ _ _ c.loop-runs.invariant.ordered
          taken (rw c.in_ok-content.ensures at c.in_ok-take_content.ensures.takes);
    }

pub returns-in_err-take_content : goal.returns-in_err-take_content
returns-in_err-take_content c =
    let next = rw c.if-branch.true at c.in_ok-advance.ensures in
    let taken = rw (runs_next _ _ next, ← next.number) at c.loop-runs.invariant.taken in
    let p = err_from_is_err_and c.from_residual-in_err-take_content.result
    c.from_residual-in_err-take_content.ensures.1 in
    rw (p.1, p.2)
    (taken_stops c.args.account.now c.args.year _ _ _ _ _ _ c.loop-runs.invariant.ordered taken
    (rw (c.in_ok-content.ensures, c.number.ensures) at c.in_err-take_content.ensures.takes))

pub returns : goal.returns
returns c =
    let none = rw c.if-branch.false at c.in_ok-advance.ensures in
    let taken = rw none at c.loop-runs.invariant.taken in
    (c.loop-runs.invariant.ordered, taken_all c.args.account.now c.args.year _ _ _ taken)
