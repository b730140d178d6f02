use Rattle.ftd_entries.proofs.PutRight.{unused_known}
use Rattle.ftd_entries.proofs.Reading.{three_told}
use Rattle.ftd_entries.proofs.beginnings.is_unused.Goals as goal

pub returns : goal.returns
returns g c = record {
  call = three_told c.in_ok-quarters.ensures.call c.in_ok-years.ensures.call
      c.in_ok-lines.ensures.call c.are_none.result _ (λ t of_quarters of_years of_lines. rw (
        c.are_none.ensures,
        c.deref.ensures.value,
        c.deref-2.ensures.value,
        c.deref-3.ensures.value,
      ) (unused_known c.args.name.now c.in_ok-quarters.quarters c.in_ok-years.years
      c.in_ok-lines.lines t of_quarters of_years of_lines));
}
