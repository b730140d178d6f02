use Rattle.std.proofs.Common.{◌≡◌, arith}
use Rattle.ftd_store.proofs.Telling.{reads_on, then_reads}
use Rattle.ftd_journal.proofs.DaysKnown.{part_begins, part_ends, part_more}
use Rattle.ftd_journal.proofs.days.add_part.Goals as goal

pub loop-year-init : goal.loop-year-init
loop-year-init g c = record {
  call = reads_on tt _ c.in_ok-add_part_of_year.ensures.call (λ t adds.
      part_begins c.args.part _ _ t adds);
}

pub loop-year-preserved : goal.loop-year-preserved
loop-year-preserved g c = record {
  call = then_reads tt _ c.loop-year.invariant.call c.in_ok-add_part_of_year-2.ensures.call
      (λ t so_far one. part_more c.args.part c.loop-year.year _ _ _ t so_far one);
}

pub returns : goal.returns
returns g c =
    let year = c.loop-year.year in
    let through = c.loop-year-test.false in
    let is : year ≡ 2100 = omega arith in
    record {
      call = reads_on tt _ c.loop-year.invariant.call
          (λ t adds. part_ends c.args.part year _ _ t is adds);
    }
