use Rattle.std.proofs.Common.{◌≡◌, ◌+◌, ℕ, List, sym, ap, subst, arith}
use Rattle.ftd_days.specs.Holidays.{holidays_of}
use Rattle.ftd_store.specs.Holidays.{HasYears}
use Rattle.ftd_store.proofs.Telling.{reads_on, then_reads}
use Rattle.ftd_store.proofs.AddedYears.{ReadSoFar, none_read, one_more_read, all_read}
use Rattle.ftd_store.proofs.tx.Tx.holidays.Goals as goal

pub loop-year-init : goal.loop-year-init
loop-year-init g c =
    let first = c.args.first in
    let year = c.saturating_add-year.result in
    let next = c.saturating_add-year.ensures in
    let none : List ℕ = holidays_of c.new-holidays.result in
    let holidays : List ℕ = holidays_of c.add_given.new.holidays in
    record {
      call = reads_on tt (λ done. ReadSoFar first year holidays) c.in_ok-add_given.ensures.call
          (λ t adds.
          let to = adds.to in
          let is : year ≡ first + 1 = omega arith in
          subst (λ (y : ℕ). ReadSoFar first y holidays t) (sym is)
          (one_more_read first first none holidays t
          (none_read first none t (omega arith) (ap holidays_of c.new-holidays.ensures)) adds));
    }

pub loop-year-preserved : goal.loop-year-preserved
loop-year-preserved g c =
    let first = c.args.first in
    let year = c.loop-year.year in
    let old : List ℕ = holidays_of c.loop-year.holidays in
    let new : List ℕ = holidays_of c.add_given-in-loop-year.new.holidays in
    record {
      call = then_reads tt (λ done. ReadSoFar first (year + 1) new) c.loop-year.invariant.call
          c.in_ok-add_given-2.ensures.call
          (λ t so_far adds. one_more_read first year old new t so_far adds);
    }

pub returns : goal.returns
returns g c =
    let first = c.args.first in
    let last = c.args.last in
    let year = c.loop-year.year in
    let holidays : List ℕ = holidays_of c.loop-year.holidays in
    let end = c.saturating_add-year-end.ensures in
    let through = c.loop-year-test.false in
    record {
      call = reads_on _ (λ hs. HasYears first last (holidays_of hs)) c.loop-year.invariant.call
          (λ t so_far. let early = so_far.early in
          all_read first last year holidays t (omega arith) so_far);
    }
