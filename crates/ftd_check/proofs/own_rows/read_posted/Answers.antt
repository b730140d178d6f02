use Rattle.std.proofs.Common.{List, None, Some, subst}
use Rattle.ftd_store.specs.Added.{RunsByRow, PaymentsByRow}
use Rattle.ftd_store.specs.declared.kept_cells.NumberedRun.{NumberedRun}
use Rattle.ftd_store.specs.declared.kept_cells.NumberedPayment.{NumberedPayment}
use Rattle.ftd_store.proofs.Telling.{reads_on, then_reads}
use Rattle.ftd_check.specs.Private.Groups.{ReadsPosted}
use Rattle.ftd_check.specs.Private.Parts.{ArePosted}
use Rattle.ftd_check.proofs.PartsRead.{no_runs, no_payments, posted_read}
use Rattle.ftd_check.proofs.own_rows.read_posted.Goals as goal

pub returns-in_default : goal.returns-in_default
returns-in_default g c =
    let name = c.args.name.now in
    record {
      call = reads_on None (ReadsPosted name) c.in_ok-runs.ensures.call
          (λ t read. no_runs name t
          (subst (λ x. RunsByRow name x t) c.in_default.is read));
    }

pub returns-in_default-2 : goal.returns-in_default-2
returns-in_default-2 g c =
    let name = c.args.name.now in
    record {
      call = then_reads None (ReadsPosted name) c.in_ok-runs.ensures.call
          c.in_ok-payments.ensures.call
          (λ t first read. no_payments name t
          (subst (λ x. PaymentsByRow name x t) c.in_default-2.is read));
    }

pub returns-in-Ok : goal.returns-in-Ok
returns-in-Ok g c =
    let name = c.args.name.now in
    let runs = c.in-Some.runs in
    let payments = c.in-Some-2.payments in
    let posted = c.in-Ok.posted in
    let its = subst (λ (xs : List NumberedPayment). ArePosted runs.items xs posted)
    c.deref-2.ensures.value
    (subst (λ (xs : List NumberedRun). ArePosted xs c.deref-2.result.now posted)
    c.deref.ensures.value c.in-Ok.ensures) in
    record {
      call = then_reads (Some posted) (ReadsPosted name) c.in_ok-runs.ensures.call
          c.in_ok-payments.ensures.call
          (λ t ran paid. posted_read name t runs payments posted its
          (subst (λ x. RunsByRow name x t) c.in-Some.is ran)
          (subst (λ x. PaymentsByRow name x t) c.in-Some-2.is paid));
    }
