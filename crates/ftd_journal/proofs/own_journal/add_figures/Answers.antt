use Rattle.ftd_journal.specs.Parts.{quarters_part, year_totals_part}
use Rattle.ftd_journal.proofs.PartsAdded.{parts_read}
use Rattle.ftd_journal.proofs.own_journal.add_figures.Goals as goal

pub returns : goal.returns
returns g c =
    let name = c.args.name.now in
    record {
      call = parts_read (quarters_part name) (year_totals_part name) _ _ _ tt
          c.in_ok-add_quarters.ensures.call c.in_ok-add_year_totals.ensures.call;
    }
