use Rattle.std.proofs.Common.{◌≡◌, ◌++◌, List}
use Rattle.ftd_days.specs.Holidays.{holidays_of}
use Rattle.ftd_rules.specs.declared.DaySum.{DaySum}
use Rattle.ftd_rules.specs.declared.YearLine.{YearLine}
use Rattle.ftd_repairs.specs.Repaired.{SumsAre, RepairsBy}
use Rattle.ftd_repairs.proofs.Fed.{right_by_all}
use Rattle.ftd_repairs.proofs.ledgers.patch_with.Goals as goal

pub returns-clause-right : goal.returns-clause-right
returns-clause-right c =
    let form = c.args.form in
    let day = c.args.run.now.payday in
    let sums : List DaySum = c.add_run_to.new.sums.items in
    let lines : List YearLine = c.args.years.now.lines.items in
    let rest : List YearLine = c.in-Some.rest.now in
    let holidays = holidays_of c.args.years.now.holidays in
    let from : (earlier : List YearLine) × (lines ≡ earlier ++ rest) =
    rw c.deref.ensures.value at c.in-Some.ensures.rest in
    let right : RepairsBy form day sums rest holidays c.in_ok-patch.patch =
    rw c.deref-2.ensures.value at c.in_ok-patch.ensures in
    right_by_all (SumsAre form day sums) form day lines from.0 rest holidays c.in_ok-patch.patch
    from.1 right
