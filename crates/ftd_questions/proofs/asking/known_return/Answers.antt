use Rattle.std.proofs.Common.{◌+◌, subst}
use Rattle.ftd_days.specs.Holidays.{holidays_of}
use Rattle.ftd_store.specs.Holidays.{HasYears}
use Rattle.ftd_store.proofs.Telling.{then_reads}
use Rattle.ftd_questions.specs.Telling.{KnowsReturn}
use Rattle.ftd_questions.proofs.asking.known_return.Goals as goal

pub returns-clause-call : goal.returns-clause-call
returns-clause-call g c =
    let name = c.args.name.now in
    let holidays = c.in_ok-holidays.holidays in
    then_reads _ (KnowsReturn name c.args.quarter) c.in_ok-holidays.ensures.call
    c.in_ok-period.ensures.call (λ t years known.
    record {
      holidays = subst (λ year. HasYears year (year + 1) (holidays_of holidays) t)
          c.year-year.ensures years;
      period = known;
    })
