use Rattle.std.proofs.Common.{◌≡◌, ◌∙◌, subst}
use Rattle.std.specs.Prelude.{filter}
use Rattle.ftd_days.proofs.Months.{month_start-zero}
use Rattle.ftd_store.proofs.Going.{then_goes}
use Rattle.ftd_store.proofs.Telling.{reads_on, then_reads}
use Rattle.ftd_store.proofs.Turning.{gave_up_after}
use Rattle.ftd_entries.proofs.Reading.{reads_too}
use Rattle.ftd_questions.specs.Listing.{is_unpaid}
use Rattle.ftd_questions.proofs.OwnDue.{own_read, own_unpaid}
use Rattle.ftd_questions.proofs.listing.own_due.Goals as goal

pub returns-in_default : goal.returns-in_default
returns-in_default g c = record {
  call = reads_on c.in_ok-owed.owed _ c.in_ok-owed.ensures.call (λ t lists. own_read _ _ c.args.to
      c.args.name.now _ c.in_ok-owed.owed t c.in_default.not-Some c.year_before.ensures lists);
}

pub returns-in-Ok : goal.returns-in-Ok
returns-in-Ok g c =
    let found = c.in_ok-owed.owed in
    let payments = c.in_ok-payments.payments in
    let left = c.in-Ok.left in
    let as_of = c.in-Some.as_of in
    let left_is : left.items ≡ filter (is_unpaid payments.items as_of) found.items =
    subst (λ ps. left.items ≡ filter (is_unpaid ps as_of) found.items) c.deref-2.ensures.value
    (subst (λ os. left.items ≡ filter (is_unpaid c.deref-2.result.now as_of) os)
    c.deref.ensures.value c.in-Ok.ensures) in
    record {
      call = then_reads left _ c.in_ok-owed.ensures.call
          (reads_too c.in_ok-payments.ensures.call c.in_ok-payments.ensures.rows)
          (λ t lists paid. own_unpaid _ _ c.args.to c.args.name.now _ _ as_of found left.items
          payments t c.in-Some.is c.year_before.ensures
          (c.first_of_month.ensures.value ∙ month_start-zero) left_is lists paid.0 paid.1);
    }

pub returns : goal.returns
returns g c = record {
  call = gave_up_after (then_goes (tt {0}) c.in_ok-owed.ensures.call.frame
      c.in_ok-payments.ensures.call.frame) c.give_up.ensures.frame c.give_up.ensures.fails;
}
