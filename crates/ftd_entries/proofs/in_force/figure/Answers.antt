use Rattle.ftd_store.proofs.Telling.{then_reads}
use Rattle.ftd_entries.proofs.Corrected.{figure_known, year_figure_known}
use Rattle.ftd_entries.proofs.in_force.figure.Goals as goal

pub returns-in_ok-corrections-in-Quarter : goal.returns-in_ok-corrections-in-Quarter
returns-in_ok-corrections-in-Quarter g c =
    rw (c.in_force.ensures, c.deref.ensures.value, c.in-Quarter.is) (record {
      call = then_reads _ _ c.in_ok-reported-in-Quarter.ensures.call
          c.in_ok-corrections-in-Quarter.ensures.call
          (figure_known c.args.name.now c.in-Quarter.quarter _
          c.in_ok-corrections-in-Quarter.corrections);
    })

pub returns-in_ok-corrections-in-Year : goal.returns-in_ok-corrections-in-Year
returns-in_ok-corrections-in-Year g c =
    rw (c.in_force-in-Year.ensures, c.deref-in-Year.ensures.value, c.in-Year.is) (record {
      call = then_reads _ _ c.in_ok-reported-in-Year.ensures.call
          c.in_ok-corrections-in-Year.ensures.call
          (year_figure_known c.args.name.now c.in-Year.year _
          c.in_ok-corrections-in-Year.corrections);
    })
