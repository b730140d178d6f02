use Rattle.std.proofs.Common.{Ok}
use Rattle.ftd_days.specs.Holidays.{holidays_of}
use Rattle.ftd_store.specs.Frame.{Reads}
use Rattle.ftd_store.proofs.AddedYears.{ReadSoFar}
use Rattle.ftd_store.proofs.tx.Tx.holidays.Given as goal

abbrev pub invariant-loop-year : goal.invariant-loop-year
invariant-loop-year g l = record {
  call : Reads g.S.Store l.fn.self l.self (Ok (tt {0}))
      (λ done. ReadSoFar l.first l.year (holidays_of l.holidays));
}
