use Rattle.std.proofs.Common.{◌≡◌, ◌∙◌, ap}
use Rattle.ftd_store.specs.Holidays.{words_on}
use Rattle.ftd_store.proofs.Telling.{reads_on}
use Rattle.ftd_entries.proofs.DayChanges.{words_known}
use Rattle.ftd_posting.specs.Changing.{KnowsWords}
use Rattle.ftd_posting.proofs.changing.words_of.Goals as goal

pub returns-in-Ok : goal.returns-in-Ok
returns-in-Ok g c =
    let day = c.args.day in
    let changes = c.in_ok-changes.changes in
    let words = c.in-Ok.words in
    let said : words.items ≡ words_on day changes.items =
    c.in-Ok.ensures ∙ ap (words_on day) c.deref.ensures.value in
    record {
      call = reads_on words (λ x. KnowsWords day x.items)
          (rw c.year.ensures at c.in_ok-changes.ensures.call) (λ t listed s stands. said
          ∙ words_known day changes t s.changed_days stands.entries.days.changed_days listed);
    }
