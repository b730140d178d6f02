use Rattle.std.proofs.Common.{◌≡◌, ◌∙◌, arith}
use Rattle.ftd_days.specs.Calendar.{last_day}
use Rattle.ftd_days.proofs.Months.{month_start-zero, month_start-end}
use Rattle.ftd_store.proofs.Telling.{reads_on}
use Rattle.ftd_journal.proofs.EntriesKnown.{runs_known}
use Rattle.ftd_journal.proofs.runs.runs.Goals as goal

pub returns-in-Ok : goal.returns-in-Ok
returns-in-Ok g c =
    let first = c.first_of_month-first.result in
    let last = c.last_of_month-last.result in
    let begin : first ≡ 0 = c.first_of_month-first.ensures.value ∙ month_start-zero in
    let end : last ≡ last_day =
    (let a = c.last_of_month-last.ensures.value in let b = month_start-end in omega arith) in
    record {
      call = reads_on c.in-Ok.rows _ c.in_ok-found.ensures.call (λ t lists.
          runs_known c.args.name.now first last c.in_ok-found.found.items c.in-Ok.rows.items t
          begin end lists c.in-Ok.ensures.same c.in-Ok.ensures.in_order);
    }
