use Rattle.std.proofs.Common.{arith, get_or, subst, sym}
use Rattle.std.proofs.lemmas.List.{get_or_default}
use Rattle.ftd_store.specs.declared.kept_cells.YearTotal.{YearTotal}
use Rattle.ftd_store.proofs.Telling.{reads_on, then_reads}
use Rattle.ftd_machine.specs.Journal.{own_by_key, total_reported}
use Rattle.ftd_machine.specs.declared.entries.ReturnPeriod.TheVariants.{Year}
use Rattle.ftd_journal.specs.Parts.{year_total_of}
use Rattle.ftd_journal.proofs.PartsAdded.{entries_added, so_far_all, so_far_more, so_far_none}
use Rattle.ftd_journal.proofs.TotalsKnown.{ListsYearTotals, year_part, year_totals_known}
use Rattle.ftd_journal.proofs.totals.add_year_totals.Goals as goal

pub loop-total-init : goal.loop-total-init
loop-total-init g c =
    let name = c.args.name.now in
    let totals = c.deref-total-items.result.now in
    reads_on tt _ c.in_ok-totals.ensures.call (λ t lists.
    so_far_none (ListsYearTotals name totals) (year_part name) totals c.args.requests.now.items t
    (subst (λ xs. ListsYearTotals name xs t) (sym c.deref-total-items.ensures.value) lists))

pub loop-total-preserved : goal.loop-total-preserved
loop-total-preserved g c =
    let name = c.args.name.now in
    let totals = c.deref-total-items.result.now in
    let i = c.loop-total.total-index in
    let none : YearTotal = record { year = 0; cents = record { 0 = 0 } } in
    let total : YearTotal = get_or totals i none in
    then_reads tt _ c.loop-total.invariant c.in_ok-add_year.ensures.call
    (λ t so_far one. so_far_more (ListsYearTotals name totals) (year_part name) totals
    i total _ _ _ t c.loop-total-test.true
    (get_or_default totals i none total c.loop-total-test.true) so_far one)

pub returns : goal.returns
returns g c =
    let name = c.args.name.now in
    let totals = c.deref-total-items.result.now in
    let end = c.loop-total-test.false in
    record {
      call = reads_on tt _ c.loop-total.invariant (λ t so_far.
          (let all = so_far_all (ListsYearTotals name totals) (year_part name) totals
          c.loop-total.total-index _ _ t (omega arith) so_far in
          entries_added (λ s. total_reported Year s.corrected_years) (year_total_of name)
          (λ s. own_by_key name s.reported_years) totals _ _ t
          (year_totals_known name totals t all.0) all.1));
    }
