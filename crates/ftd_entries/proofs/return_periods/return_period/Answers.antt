use Rattle.std.proofs.Common.{ap, ◌∙◌}
use Rattle.ftd_rules.specs.Periods.{return_period_of, return_period_first, return_period_last}
use Rattle.ftd_entries.proofs.Reading.{three_told}
use Rattle.ftd_entries.proofs.return_periods.return_period.Goals as goal

pub returns-clause-call : goal.returns-clause-call
returns-clause-call g c =
    let form = c.args.form in
    three_told c.in_ok-payments.ensures.call c.in_ok-total.ensures.call
    c.in_ok-preceding.ensures.call _ _ (λ t counts owes before. record {
      first = c.return_period-first.ensures.first
          ∙ ap (λ d. return_period_first form (return_period_of form d)) c.first.ensures;
      last = c.return_period-first.ensures.last
          ∙ ap (λ d. return_period_last form (return_period_of form d)) c.first.ensures;
      payments = counts;
      total = owes;
      preceding = before;
    })
