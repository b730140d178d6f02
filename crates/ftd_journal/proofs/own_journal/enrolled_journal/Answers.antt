use Rattle.std.proofs.Common.{◌++◌}
use Rattle.ftd_store.proofs.Telling.{reads_on}
use Rattle.ftd_journal.specs.Parts.{enrolment_part, entries_part, figures_part}
use Rattle.ftd_journal.proofs.OwnKnown.{parts_whole}
use Rattle.ftd_journal.proofs.PartsAdded.{parts_read}
use Rattle.ftd_journal.proofs.own_journal.enrolled_journal.Goals as goal

pub returns : goal.returns
returns g c =
    let name = c.args.name.now in
    let account = c.args.account in
    let parts = parts_read (λ s. enrolment_part name account s ++ figures_part name s)
    (entries_part name) c.new-requests.result.items _ c.add_entries.new.requests.items (tt {0})
    (parts_read (enrolment_part name account) (figures_part name) c.new-requests.result.items _ _
    (tt {0}) c.in_ok-add_enrolment.ensures.call c.in_ok-add_figures.ensures.call)
    c.in_ok-add_entries.ensures.call in
    record {
      call = reads_on c.add_entries.new.requests _ (rw c.new-requests.ensures.items at parts)
          (λ t adds. parts_whole name account c.add_entries.new.requests.items t adds);
    }
