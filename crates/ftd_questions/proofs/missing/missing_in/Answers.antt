use Rattle.std.proofs.Common.{◌∙◌, ◌+◌, ap, rules}
use Rattle.ftd_machine.specs.State.{entries_of}
use Rattle.ftd_entries.proofs.Kept.{kept_reported}
use Rattle.ftd_entries.proofs.Reading.{fails_after_three, four_told, gives_up_after_four}
use Rattle.ftd_questions.specs.Missing.{KnowsMissing}
use Rattle.ftd_questions.proofs.Unreported.{missing_known}
use Rattle.ftd_questions.proofs.missing.missing_in.Goals as goal

pub returns-in_err-reported_total-4 : goal.returns-in_err-reported_total-4
returns-in_err-reported_total-4 g c = record {
  call = fails_after_three c.in_ok-reported_total.ensures.call c.in_ok-reported_total-2.ensures.call
      c.in_ok-reported_total-3.ensures.call (search rules) c.in_err-reported_total-4.ensures.call.frame;
}

pub returns-in-Ok : goal.returns-in-Ok
returns-in-Ok g c =
    let name = c.args.name.now in
    let start = c.lookback_start-quarters.ensures.value in
    record {
      call = four_told c.in_ok-reported_total.ensures.call c.in_ok-reported_total-2.ensures.call
          c.in_ok-reported_total-3.ensures.call c.in-Ok.quarters
          (KnowsMissing name c.args.first c.args.year) c.in_ok-reported_total-4.ensures.call
          (λ t third fourth next last s stands sound. c.in-Ok.ensures
          ∙ missing_known (entries_of s name) c.args.first c.args.year c.at-third.result
          c.at-fourth.result c.at-next.result c.at-last.result _ _ _ _
          (kept_reported name t s stands c.at-third.result _ third)
          (kept_reported name t s stands c.at-fourth.result _ fourth)
          (kept_reported name t s stands c.at-next.result _ next)
          (kept_reported name t s stands c.at-last.result _ last)
          (c.at-third.ensures ∙ start)
          (c.at-fourth.ensures ∙ ap (λ z. z + 1) start) (c.at-next.ensures ∙ ap (λ z. z + 2) start)
          (c.at-last.ensures ∙ ap (λ z. z + 3) start));
    }

pub returns-in-Err : goal.returns-in-Err
returns-in-Err g c = record {
  call = gives_up_after_four c.in_ok-reported_total.ensures.call c.in_ok-reported_total-2.ensures.call
      c.in_ok-reported_total-3.ensures.call c.in_ok-reported_total-4.ensures.call c.give_up.ensures.frame
      c.give_up.ensures.fails;
}
