use Rattle.std.proofs.Common.{subst}
use Rattle.ftd_store.proofs.Telling.{reads_on}
use Rattle.ftd_kept.specs.Explained.{AreRunning}
use Rattle.ftd_kept.proofs.Paydays.{paydays_are, paydays_rise}
use Rattle.ftd_kept.proofs.explaining.paydays.Goals as goal

pub returns-in-Ok : goal.returns-in-Ok
returns-in-Ok g c =
    let running : AreRunning 0 c.in_ok-sums.sums.items c.in-Ok.rows.items =
    subst (λ xs. AreRunning 0 xs c.in-Ok.rows.items) c.deref.ensures.value c.in-Ok.ensures in
    let o = c.args.obligation.now in
    let sums = c.in_ok-sums.sums in
    record {
      call = reads_on c.in-Ok.rows _ c.in_ok-sums.ensures.call (λ t lists. record {
        shown = record { sums = sums.items; are_sums = lists; running = running };
        rise = λ s stands. paydays_rise c.args.name.now o sums _ t s stands lists running;
        all = λ s stands. paydays_are c.args.name.now o sums _ t s stands lists running;
      });
    }
