use Rattle.std.proofs.Common.{refl}
use Rattle.ftd_machine.specs.declared.entries.ReturnPeriod.TheVariants.{Year}
use Rattle.ftd_sound.specs.Private.Plain.{AreOfPeriods, AreTotals}
use Rattle.ftd_sound.proofs.Deciding.{and_also}
use Rattle.ftd_sound.proofs.totals.are_year_totals.Goals as goal

pub returns : goal.returns
returns c = and_also (AreOfPeriods c.args.account Year c.args.reported.now)
    (AreTotals c.args.reported.now c.args.corrected.now) c.are_totals.result
    (c.if-not-are_of_years.ensures.0 refl) c.are_totals.ensures
