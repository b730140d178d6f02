use Rattle.std.proofs.Common.{◌≡◌, ◌∙◌, rules}
use Rattle.ftd_rules.specs.Lists.{Has}
use Rattle.ftd_kept.proofs.Scheduling.{none_by}
use Rattle.ftd_kept.proofs.schedules.schedule_on.Goals as goal

pub returns-in_err-line : goal.returns-in_err-line
returns-in_err-line c = λ some scheduled. none_by c.args.lines.now c.args.day some (search rules)

pub returns : goal.returns
returns c = λ some scheduled. (let its : Has c.args.lines.now c.in_ok-line.line.now
    × (c.in_ok-line.line.now.year ≡ c.year.result) = c.in_ok-line.ensures in record {
      line = c.in_ok-line.line.now;
      open_year = its.0;
      of_day = its.1 ∙ c.year.ensures;
      has_status = c.kind_on-kind.ensures;
      is_why = c.reason-reason.ensures c.args.day scheduled.0
          (scheduled.1 c.in_ok-line.line.now its.0)
          c.kind_on-kind.ensures;
    })
