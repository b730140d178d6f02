use Rattle.std.proofs.Common.{◌≡◌, ◌∙◌, ap}
use Rattle.ftd_machine.specs.Journal.{corrections}
use Rattle.ftd_machine.specs.declared.requests.Correction.TheVariants as correction
use Rattle.ftd_entries.specs.Known.{amounts_of, cents_of}
use Rattle.ftd_journal.specs.Parts.{with_numbers}
use Rattle.ftd_journal.proofs.PartsAdded.{numbered_as}
use Rattle.ftd_journal.proofs.totals.add_later.Goals as goal

pub returns : goal.returns
returns c =
    let of = correction.Total c.args.name.now c.args.period.now in
    let same : with_numbers c.in_ok-given.given.items
    ≡ corrections (λ cents. correction.Total c.args.name.now c.args.period.now cents)
    (amounts_of c.args.rows.now) =
    ap with_numbers c.in_ok-given.ensures ∙ numbered_as of cents_of 1 c.args.rows.now in
    rw same at c.add_corrections.ensures
