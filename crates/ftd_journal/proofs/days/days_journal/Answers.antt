use Rattle.std.proofs.Common.{◌++◌}
use Rattle.ftd_store.proofs.Telling.{reads_on}
use Rattle.ftd_journal.specs.Days.{all_calendars, all_changes, all_holidays}
use Rattle.ftd_journal.proofs.PartsAdded.{parts_read}
use Rattle.ftd_journal.proofs.days.days_journal.Goals as goal

pub returns : goal.returns
returns g c =
    let parts = parts_read (λ s. all_calendars s ++ all_holidays s) all_changes
    c.new-requests.result.items _ c.add_part-3.new.requests.items (tt {0})
    (parts_read all_calendars all_holidays c.new-requests.result.items _ _ (tt {0})
    c.in_ok-add_part.ensures.call c.in_ok-add_part-2.ensures.call)
    c.in_ok-add_part-3.ensures.call in
    record {
      call = reads_on c.add_part-3.new.requests _ (rw c.new-requests.ensures.items at parts)
          (λ t adds. adds);
    }
