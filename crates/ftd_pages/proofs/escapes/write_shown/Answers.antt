use Rattle.ftd_pages.proofs.ValueFacts.{value_stays}
use Rattle.ftd_pages.proofs.escapes.write_shown.Goals as goal

pub returns-in_default : goal.returns-in_default
returns-in_default g c =
    rw (value_stays c.args.value.now c.in_default.not-Text) c.write_plain.ensures
