use Rattle.std.proofs.Common.{◌∙◌, ◌+◌, ap, rules}
use Rattle.ftd_machine.specs.State.{entries_of}
use Rattle.ftd_entries.specs.Totals.{KnowsTotalOn941}
use Rattle.ftd_entries.proofs.Reading.{fails_after_three, four_told, gives_up_after_four}
use Rattle.ftd_entries.proofs.Totals.{quarters_known}
use Rattle.ftd_entries.proofs.lookbacks.total_941.Goals as goal

pub returns-in_err-figure-4 : goal.returns-in_err-figure-4
returns-in_err-figure-4 g c = record {
  call = fails_after_three c.in_ok-figure.ensures.call c.in_ok-figure-2.ensures.call
      c.in_ok-figure-3.ensures.call (search rules) c.in_err-figure-4.ensures.call.frame;
}

pub returns-in-Ok : goal.returns-in-Ok
returns-in-Ok g c =
    let name = c.args.name.now in
    let start = c.lookback_start-quarters.ensures.value in
    record {
      call = four_told c.in_ok-figure.ensures.call c.in_ok-figure-2.ensures.call
          c.in_ok-figure-3.ensures.call c.in-Ok.total
          (KnowsTotalOn941 name c.args.start c.args.year) c.in_ok-figure-4.ensures.call
          (λ t third fourth first second s keeps once. quarters_known (entries_of s name).reported
          (entries_of s name).corrected c.args.start c.args.year once.0 c.at-third.result
          c.at-fourth.result c.at-first.result c.at-second.result _ _ _ _ (third s keeps)
          (fourth s keeps) (first s keeps) (second s keeps) (c.at-third.ensures ∙ start)
          (c.at-fourth.ensures ∙ ap (λ z. z + 1) start) (c.at-first.ensures ∙ ap (λ z. z + 2) start)
          (c.at-second.ensures ∙ ap (λ z. z + 3) start) c.in-Ok.total c.in-Ok.ensures);
    }

pub returns-in-Err : goal.returns-in-Err
returns-in-Err g c = record {
  call = gives_up_after_four c.in_ok-figure.ensures.call c.in_ok-figure-2.ensures.call
      c.in_ok-figure-3.ensures.call c.in_ok-figure-4.ensures.call c.give_up.ensures.frame
      c.give_up.ensures.fails;
}
