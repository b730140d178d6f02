use Rattle.std.proofs.Common.{◌≡◌, ◌∙◌, ap}
use Rattle.ftd_store.specs.Holidays.{words_on}
use Rattle.ftd_journal.specs.Days.{changes_on, day_correction}
use Rattle.ftd_journal.specs.Parts.{with_numbers}
use Rattle.ftd_journal.proofs.PartsAdded.{numbered_is}
use Rattle.ftd_journal.proofs.changes.add_day_changes.Goals as goal

pub returns : goal.returns
returns c =
    let same : with_numbers c.in_ok-given.given.items ≡ changes_on c.args.changes.now c.args.day =
    ap with_numbers c.in_ok-given.ensures
    ∙ numbered_is (day_correction c.args.day) 1 (words_on c.args.day c.args.changes.now) in
    rw same at c.add_corrections.ensures
