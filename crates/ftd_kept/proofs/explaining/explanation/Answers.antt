use Rattle.std.proofs.Common.{◌+◌, subst}
use Rattle.ftd_days.specs.Holidays.{holidays_of}
use Rattle.ftd_store.specs.Holidays.{HasYears}
use Rattle.ftd_entries.proofs.Reading.{three_told}
use Rattle.ftd_kept.proofs.ExplainedKnown.{told_known}
use Rattle.ftd_kept.proofs.TablesExplained.{told_shown}
use Rattle.ftd_kept.proofs.explaining.explanation.Goals as goal

pub returns-in-Ok : goal.returns-in-Ok
returns-in-Ok g c =
    let given = holidays_of c.in_ok-holidays.holidays in
    record {
      call = three_told c.in_ok-paydays.ensures.call c.in_ok-payments.ensures.call
          c.in_ok-holidays.ensures.call c.in-Ok.explanation _ (λ t days payments read.
          (let years = subst (λ y. HasYears y (y + 1) given t) c.in-Some.ensures.0 read in
          let shown = told_shown c.args.name.now c.args.form c.args.lines.now given
          c.args.obligation _ _ _ c.in-Ok.ensures t days payments years in (
            told_known c.args.name.now c.args.form c.args.lines.now given c.args.obligation _ _ _
                c.in-Ok.ensures t days payments years,
            shown.0,
            shown.1,
          )));
    }
