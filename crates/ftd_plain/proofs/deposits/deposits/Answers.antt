use Rattle.std.proofs.Common.{false}
use Rattle.std.proofs.lemmas.Result.{IfOk-weaker}
use Rattle.ftd_plain.proofs.Sums.{lies_in, whole_sum, only_line}
use Rattle.ftd_plain.proofs.deposits.deposits.Goals as goal

pub assess-requires-clause-days : goal.assess-requires-clause-days
assess-requires-clause-days c = lies_in _ c.args.sums.now c.requires.to c.requires.in_year

pub assess-requires-clause-small : goal.assess-requires-clause-small
assess-requires-clause-small c = whole_sum c.args.sums.now c.requires.few c.requires.small

pub returns : goal.returns
returns c =
    let (one, is, year, lookback, carried) = only_line c.in_ok-assessment.assessment.years
    c.args.year 0 false c.in_ok-assessment.ensures.basis in
    let lines = rw is at c.in_ok-assessment.ensures.lines in
    let rows = rw is at c.in_ok-assessment.ensures.rows in
    IfOk-weaker c.lines.result _ _ (λ text printed. record {
      line = one;
      of_year = year;
      no_lookback = lookback;
      not_carried = carried;
      scheduled = lines;
      rows = c.in_ok-assessment.assessment.rows;
      owed = rows;
      printed = rw c.as_slice.ensures at printed;
    }) c.lines.ensures
