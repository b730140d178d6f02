use Rattle.std.proofs.Common.{Ok}
use Rattle.ftd_store.specs.Frame.{Reads}
use Rattle.ftd_journal.specs.Parts.{AddsPart}
use Rattle.ftd_journal.proofs.DaysKnown.{part_until}
use Rattle.ftd_journal.proofs.days.add_part.Given as goal

abbrev pub invariant-loop-year : goal.invariant-loop-year
invariant-loop-year g l = record {
  call : Reads g.S.Store l.fn.tx l.tx (Ok (tt {0}))
      (λ done. AddsPart (part_until l.fn.part l.year) l.fn.requests.items l.requests.items);
}
