use Rattle.ftd_rules.specs.declared.YearLine.{YearLine}
use Rattle.ftd_rules.specs.declared.Kind.TheVariants as kind
use Rattle.std.proofs.Common.{None, get_or, refl}
use Rattle.ftd_sound.proofs.Begun.{begun_more, not_empty}
use Rattle.ftd_sound.proofs.lines.lines_of.Goals as goal

pub returns-in_default-clause-none : goal.returns-in_default-clause-none
returns-in_default-clause-none c = λ all.
    let here = all c.loop-year.year-index 0 c.loop-year-test.true in
    c.in_default.ensures here.0 here.1

pub loop-year-preserved : goal.loop-year-preserved
loop-year-preserved c =
    let line : YearLine = record {
      year = get_or c.args.years.now c.loop-year.year-index 0;
      lookback = c.in-Some.lookback;
      carried = c.loop-year.carried;
      opening = kind.Monthly;
      turn = None;
    } in
    rw c.in_ok-push.ensures.items (record {
      begun = begun_more c.args.account.now c.args.figures.now c.args.years.now
          c.loop-year.year-index c.loop-year.lines.items line c.loop-year-test.true refl
          c.in-Some.ensures c.loop-year.invariant.carried_is c.loop-year.invariant.begun;
      carried_is = not_empty c.loop-year.lines.items line c.args.account.now.carried;
    })
