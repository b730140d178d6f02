use Rattle.std.proofs.Common.{◌∙◌, ap, rules}
use Rattle.ftd_machine.specs.State.{numbered}
use Rattle.ftd_entries.specs.Known.{amounts_of}
use Rattle.ftd_entries.proofs.Reading.{four_told, gives_up_after_four, reads_too}
use Rattle.ftd_posting.proofs.CorrectedFigures.{corrected_as_listed, total_corrections_known}
use Rattle.ftd_posting.proofs.correcting.known_for_total.Goals as goal

pub returns-in_default : goal.returns-in_default
returns-in_default g c = record {
  call = gives_up_after_four c.in_ok-account.ensures.call c.in_ok-reported.ensures.call
      c.in_ok-is_open.ensures.call c.in_ok-corrections.ensures.call c.give_up.ensures.frame
      c.give_up.ensures.fails;
}

pub returns : goal.returns
returns g c = record {
  call = four_told (reads_too c.in_ok-account.ensures.call c.in_ok-account.ensures.form)
      c.in_ok-reported.ensures.call c.in_ok-is_open.ensures.call _ _
      c.in_ok-corrections.ensures.call (λ t account reported opened listed. record {
        account = account.0;
        form = account.1;
        reported = reported;
        corrected = corrected_as_listed c.args.number _ _ c.in_ok-corrections.corrections t
            (λ s stands. total_corrections_known c.args.name.now c.args.period.now
            c.in_ok-corrections.corrections t listed s stands)
            (c.numbered.ensures ∙ ap (λ cs. numbered c.args.number (amounts_of cs))
            c.deref.ensures.value) (search rules);
        is_open = opened;
      });
}
