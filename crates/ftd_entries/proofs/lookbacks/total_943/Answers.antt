use Rattle.ftd_store.proofs.Telling.{reads_on}
use Rattle.ftd_machine.specs.State.{entries_of}
use Rattle.ftd_entries.proofs.Totals.{total_known}
use Rattle.ftd_entries.proofs.lookbacks.total_943.Goals as goal

pub returns : goal.returns
returns g c =
    let name = c.args.name.now in
    record {
      call = reads_on c.total_of_year.result _ c.in_ok-found.ensures.call
          (λ t finds s keeps once. total_known (entries_of s name).reported_years
          (entries_of s name).corrected_years c.args.start c.args.year _ _ once.1 (finds s keeps)
          c.total_of_year.ensures);
    }
