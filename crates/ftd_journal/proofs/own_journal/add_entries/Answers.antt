use Rattle.std.proofs.Common.{◌++◌}
use Rattle.ftd_journal.specs.Parts.{payments_part, runs_part, years_part}
use Rattle.ftd_journal.proofs.PartsAdded.{parts_read}
use Rattle.ftd_journal.proofs.own_journal.add_entries.Goals as goal

pub returns : goal.returns
returns g c =
    let name = c.args.name.now in
    record {
      call = parts_read (λ s. years_part name s ++ runs_part name s) (payments_part name) _ _ _ tt
          (parts_read (years_part name) (runs_part name) _ _ _ (tt {0})
          c.in_ok-add_years.ensures.call c.in_ok-add_runs.ensures.call)
          c.in_ok-add_payments.ensures.call;
    }
