use Rattle.ftd_machine.specs.State.{entries_of}
use Rattle.ftd_entries.proofs.Reading.{reads_as}
use Rattle.ftd_entries.proofs.Totals.{on_941, on_943}
use Rattle.ftd_entries.proofs.lookbacks.lookback_total.Goals as goal

pub returns-in-F941 : goal.returns-in-F941
returns-in-F941 g c = record {
  call = reads_as _ c.total_941.ensures.call (λ total t knows s keeps once is.
      on_941 (entries_of s c.args.name.now) c.args.account c.args.year is total c.in-F941.is
      (knows s keeps once));
}

pub returns-in-F943 : goal.returns-in-F943
returns-in-F943 g c = record {
  call = reads_as _ c.total_943.ensures.call (λ total t knows s keeps once is.
      on_943 (entries_of s c.args.name.now) c.args.account c.args.year is total c.in-F943.is
      (knows s keeps once));
}
