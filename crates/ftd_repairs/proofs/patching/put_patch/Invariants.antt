use Rattle.std.proofs.Common.{Ok, All}
use Rattle.ftd_store.specs.Amounts.{IsStorable}
use Rattle.ftd_repairs.specs.Replaced.{AreBetween}
use Rattle.ftd_repairs.specs.Rescheduled.{HasLines}
use Rattle.ftd_store.specs.Frame.{Rewrites}
use Rattle.ftd_repairs.proofs.Putting.{PutSoFar}
use Rattle.ftd_repairs.proofs.patching.put_patch.Given as goal

abbrev pub invariant-loop-i : goal.invariant-loop-i
invariant-loop-i g l = record {
  lookbacks : All (λ line. IsStorable line.lookback) l.lines;
  call : Rewrites g.S.Store l.fn.tx l.tx (Ok (tt {0}))
      (λ done old new. AreBetween l.fn.account l.fn.patch.from l.fn.patch.to l.fn.gone old
      → HasLines l.fn.account l.fn.lines old → PutSoFar l.fn.account l.fn.lines l.fn.patch l.i
      l.lines old new);
}
