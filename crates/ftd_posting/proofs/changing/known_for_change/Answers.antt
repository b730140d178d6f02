use Rattle.std.proofs.Common.{rules}
use Rattle.ftd_entries.proofs.Reading.{three_told}
use Rattle.ftd_posting.proofs.changing.known_for_change.Goals as goal

pub returns : goal.returns
returns g c = record {
  call = three_told (rw c.year.ensures at c.in_ok-calendar.ensures.call)
      (rw c.year-2.ensures at c.in_ok-added.ensures.call) c.in_ok-words.ensures.call _ _
      (λ t calendar added said. record {
        calendar = calendar;
        added = added;
        words = said;
        count = search rules;
      });
}
