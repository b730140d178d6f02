use Rattle.std.proofs.Common.{take, Ok}
use Rattle.ftd_store.specs.Changes.{with_obligations}
use Rattle.ftd_store.specs.Frame.{Writes}
use Rattle.ftd_store.proofs.tx.Tx.replace_obligations.Given as goal

abbrev pub invariant-loop-obligation : goal.invariant-loop-obligation
invariant-loop-obligation g l =
    Writes g.S.Store l.fn.self l.self (Ok (tt {0})) (with_obligations l.fn.account (l.fn.from)
    (l.fn.to) (take l.obligation-index l.fn.given))
