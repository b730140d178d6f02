use Rattle.std.proofs.Common.{append_assoc}
use Rattle.std.specs.Map.Iter.{deref}
use Rattle.std.proofs.lemmas.Map.Iter.{rest_more}
use Rattle.std.proofs.lemmas.List.Elements.{All-tail}
use Rattle.ftd_plain.specs.Taking.{IsSmall}
use Rattle.ftd_plain.proofs.deposits.day_sums.Goals as goal

pub loop-pay_run-preserved : goal.loop-pay_run-preserved
loop-pay_run-preserved c =
    let left = rest_more deref _ _ _ _ c.in-Some.is c.next.ensures.steps in
    let items = c.in_ok-push.ensures.items in
    record {
      so_far = rw (items, append_assoc, c.day_sum.ensures)
          (rw left at c.loop-pay_run.invariant.so_far);
      small = All-tail IsSmall c.in-Some.pay_run.now c.next.new.self
          (rw left at c.loop-pay_run.invariant.small);
    }
