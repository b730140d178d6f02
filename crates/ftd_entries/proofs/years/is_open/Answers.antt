use Rattle.ftd_store.proofs.Telling.{reads_on}
use Rattle.ftd_entries.specs.Known.{KnowsYear}
use Rattle.ftd_entries.proofs.Opened.{knows_year}
use Rattle.ftd_entries.proofs.years.is_open.Goals as goal

pub returns : goal.returns
returns g c =
    let name = c.args.name.now in
    let year = c.args.year in
    record {
      call = reads_on c.has_year.result (KnowsYear name year) c.in_ok-lines.ensures.call
          (λ t lists. rw (c.has_year.ensures, c.deref.ensures.value)
          (knows_year year name c.in_ok-lines.lines t lists));
    }
