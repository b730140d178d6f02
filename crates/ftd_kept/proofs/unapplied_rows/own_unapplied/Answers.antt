use Rattle.std.proofs.Common.{◌≡◌, ◌∙◌, arith}
use Rattle.ftd_days.specs.Calendar.{last_day}
use Rattle.ftd_days.proofs.Months.{month_start-zero, month_start-end}
use Rattle.ftd_entries.proofs.OwedRows.{obligations_known}
use Rattle.ftd_entries.proofs.Reading.{three_told}
use Rattle.ftd_kept.specs.Unapplied.{KnowsOwnUnapplied}
use Rattle.ftd_kept.proofs.UnappliedKnown.{own_known}
use Rattle.ftd_kept.proofs.unapplied_rows.own_unapplied.Goals as goal

pub returns-in-Ok : goal.returns-in-Ok
returns-in-Ok g c =
    let name = c.args.name.now in
    let until = c.args.until in
    let owed = c.in_ok-owed.owed in
    let rows = c.in-Ok.rows in
    let first = c.first_of_month-first.result in
    let begin : first ≡ 0 = c.first_of_month-first.ensures.value ∙ month_start-zero in
    let end : c.last_of_month.result ≡ last_day =
    (let a = c.last_of_month.ensures.value in let b = month_start-end in omega arith) in
    let are = rw (c.deref.ensures.value, c.deref-2.ensures.value, c.deref-3.ensures.value)
    at c.in-Ok.ensures in
    record {
      call = three_told c.in_ok-owed.ensures.call c.in_ok-payments.ensures.call
          c.in_ok-found.ensures.call rows (λ xs t. KnowsOwnUnapplied name until xs.items t)
          (λ t owes counts lists. own_known name first until c.last_of_month.result owed.items
          c.in_ok-payments.payments.items c.in_ok-found.found.items rows.items t begin end
          (obligations_known name first until owed t owes) counts lists are);
    }
