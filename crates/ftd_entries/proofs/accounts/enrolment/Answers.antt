use Rattle.ftd_store.proofs.Telling.{then_reads}
use Rattle.ftd_entries.proofs.Found.{knows_enrolled, form_read}
use Rattle.ftd_entries.proofs.accounts.enrolment.Goals as goal

pub returns : goal.returns
returns g c = rw c.joined.ensures (record {
  call = then_reads _ _ c.in_ok-found.ensures.call c.in_ok-form.ensures.call
      (knows_enrolled c.args.name.now _ _);
  form = form_read c.args.name.now c.in_ok-found.ensures.call c.in_ok-form.ensures.call;
})
