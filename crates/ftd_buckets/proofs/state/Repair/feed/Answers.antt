use Rattle.std.proofs.Common.{◌≡◌, sym, ap, ◌∙◌, subst}
use Rattle.std.specs.Prelude.{IfOk, Result, List}
use Rattle.ftd_rules.specs.declared.DaySum.{DaySum}
use Rattle.ftd_buckets.specs.declared.state.Next.{Next}
use Rattle.ftd_buckets.specs.declared.state.Progress.{Progress}
use Rattle.ftd_buckets.specs.declared.state.Stage.{Stage}
use Rattle.ftd_buckets.specs.Ready.{Repairing, repairing}
use Rattle.ftd_buckets.specs.Private.Answered.{Answers}
use Rattle.ftd_buckets.proofs.Answering.{answer_asked, answer_form, answer_held, answer_need}
use Rattle.ftd_buckets.proofs.Answering.{answer_done}
use Rattle.ftd_buckets.proofs.state.Repair.feed.Goals as goal

-- what answers the sums that the stage takes answers those of the repair
fed : {E : Type 0} (s : Progress) (sums : List DaySum) (answer : Result Next E) {at stage : Stage}
    {r : Repairing} → at ≡ stage → repairing s at ≡ r
    → IfOk answer (Answers (repairing s stage) sums) → IfOk answer (Answers r sums)
fed s sums answer is view h =
    subst (λ (r : Repairing). IfOk answer (Answers r sums))
    (ap (λ z. repairing s z) (sym is) ∙ view) h

pub returns-in-Period-clause-form : goal.returns-in-Period-clause-form
returns-in-Period-clause-form c = answer_form c.args.self c.args.sums.now c.feed_period.result
    (fed c.self.inside.settled _ _ c.in-Period.is c.self.view_is c.feed_period.ensures)

pub returns-in-Period-clause-asked : goal.returns-in-Period-clause-asked
returns-in-Period-clause-asked c = answer_asked c.args.self c.args.sums.now c.feed_period.result
    (fed c.self.inside.settled _ _ c.in-Period.is c.self.view_is c.feed_period.ensures)

pub returns-in-Period-clause-held : goal.returns-in-Period-clause-held
returns-in-Period-clause-held c = answer_held c.args.self c.args.sums.now c.feed_period.result
    (fed c.self.inside.settled _ _ c.in-Period.is c.self.view_is c.feed_period.ensures)

pub returns-in-Period-clause-need : goal.returns-in-Period-clause-need
returns-in-Period-clause-need c = answer_need c.args.self c.args.sums.now c.feed_period.result
    (fed c.self.inside.settled _ _ c.in-Period.is c.self.view_is c.feed_period.ensures)

pub returns-in-Period-clause-done : goal.returns-in-Period-clause-done
returns-in-Period-clause-done c = answer_done c.args.self c.args.sums.now c.feed_period.result
    (fed c.self.inside.settled _ _ c.in-Period.is c.self.view_is c.feed_period.ensures)

pub returns-in-Rest-clause-form : goal.returns-in-Rest-clause-form
returns-in-Rest-clause-form c = answer_form c.args.self c.args.sums.now c.feed_rest.result
    (fed c.self.inside.settled _ _ c.in-Rest.is c.self.view_is c.feed_rest.ensures)

pub returns-in-Rest-clause-asked : goal.returns-in-Rest-clause-asked
returns-in-Rest-clause-asked c = answer_asked c.args.self c.args.sums.now c.feed_rest.result
    (fed c.self.inside.settled _ _ c.in-Rest.is c.self.view_is c.feed_rest.ensures)

pub returns-in-Rest-clause-held : goal.returns-in-Rest-clause-held
returns-in-Rest-clause-held c = answer_held c.args.self c.args.sums.now c.feed_rest.result
    (fed c.self.inside.settled _ _ c.in-Rest.is c.self.view_is c.feed_rest.ensures)

pub returns-in-Rest-clause-need : goal.returns-in-Rest-clause-need
returns-in-Rest-clause-need c = answer_need c.args.self c.args.sums.now c.feed_rest.result
    (fed c.self.inside.settled _ _ c.in-Rest.is c.self.view_is c.feed_rest.ensures)

pub returns-in-Rest-clause-done : goal.returns-in-Rest-clause-done
returns-in-Rest-clause-done c = answer_done c.args.self c.args.sums.now c.feed_rest.result
    (fed c.self.inside.settled _ _ c.in-Rest.is c.self.view_is c.feed_rest.ensures)

pub returns-in-Year-clause-form : goal.returns-in-Year-clause-form
returns-in-Year-clause-form c = answer_form c.args.self c.args.sums.now c.feed_year.result
    (fed c.self.inside.settled _ _ c.in-Year.is c.self.view_is c.feed_year.ensures)

pub returns-in-Year-clause-asked : goal.returns-in-Year-clause-asked
returns-in-Year-clause-asked c = answer_asked c.args.self c.args.sums.now c.feed_year.result
    (fed c.self.inside.settled _ _ c.in-Year.is c.self.view_is c.feed_year.ensures)

pub returns-in-Year-clause-held : goal.returns-in-Year-clause-held
returns-in-Year-clause-held c = answer_held c.args.self c.args.sums.now c.feed_year.result
    (fed c.self.inside.settled _ _ c.in-Year.is c.self.view_is c.feed_year.ensures)

pub returns-in-Year-clause-need : goal.returns-in-Year-clause-need
returns-in-Year-clause-need c = answer_need c.args.self c.args.sums.now c.feed_year.result
    (fed c.self.inside.settled _ _ c.in-Year.is c.self.view_is c.feed_year.ensures)

pub returns-in-Year-clause-done : goal.returns-in-Year-clause-done
returns-in-Year-clause-done c = answer_done c.args.self c.args.sums.now c.feed_year.result
    (fed c.self.inside.settled _ _ c.in-Year.is c.self.view_is c.feed_year.ensures)
