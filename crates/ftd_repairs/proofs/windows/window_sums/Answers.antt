use Rattle.std.proofs.Common.{List, sym, subst}
use Rattle.ftd_rules.specs.declared.DaySum.{DaySum}
use Rattle.ftd_store.proofs.Telling.{reads_on}
use Rattle.ftd_repairs.specs.Repaired.{AreLiveIn}
use Rattle.ftd_repairs.proofs.windows.window_sums.Goals as goal

pub returns-in-Some-clause-call : goal.returns-in-Some-clause-call
returns-in-Some-clause-call g c =
    let name = c.args.account.now in
    let w = c.args.window in
    reads_on c.in-Some.read (λ read t. AreLiveIn name t w read.sums.items) c.in_ok-sums.ensures.call
    (λ t live. subst (λ (ds : List DaySum). AreLiveIn name t w ds) (sym c.in-Some.ensures.same)
    live)
