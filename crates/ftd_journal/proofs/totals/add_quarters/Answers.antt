use Rattle.std.proofs.Common.{arith, subst, sym}
use Rattle.ftd_store.proofs.Telling.{reads_on, then_reads}
use Rattle.ftd_machine.specs.Journal.{own_by_key, total_reported}
use Rattle.ftd_machine.specs.declared.entries.ReturnPeriod.TheVariants.{Quarter}
use Rattle.ftd_journal.specs.Parts.{quarter_of}
use Rattle.ftd_journal.proofs.PartsAdded.{entries_added, so_far_all, so_far_more, so_far_none}
use Rattle.ftd_journal.proofs.TotalsKnown.{ListsQuarters, quarter_part, quarters_known}
use Rattle.ftd_journal.proofs.totals.add_quarters.Goals as goal

pub loop-total-init : goal.loop-total-init
loop-total-init g c =
    let name = c.args.name.now in
    let totals = c.deref-total-items.result.now in
    reads_on tt _ c.in_ok-totals.ensures.call (λ t lists.
    so_far_none (ListsQuarters name totals) (quarter_part name) totals c.args.requests.now.items t
    (subst (λ xs. ListsQuarters name xs t) (sym c.deref-total-items.ensures.value) lists))

pub loop-total-preserved : goal.loop-total-preserved
loop-total-preserved g c =
    let name = c.args.name.now in
    let totals = c.deref-total-items.result.now in
    then_reads tt _ c.loop-total.invariant c.in_ok-add_quarter.ensures.call
    (λ t so_far one. so_far_more (ListsQuarters name totals) (quarter_part name) totals
    c.loop-total.total-index c.total-item.result _ _ _ t c.loop-total-test.true c.total-item.is
    so_far one)

pub returns : goal.returns
returns g c =
    let name = c.args.name.now in
    let totals = c.deref-total-items.result.now in
    let end = c.loop-total-test.false in
    record {
      call = reads_on tt _ c.loop-total.invariant (λ t so_far.
          (let all = so_far_all (ListsQuarters name totals) (quarter_part name) totals
          c.loop-total.total-index _ _ t (omega arith) so_far in
          entries_added (λ s. total_reported Quarter s.corrected) (quarter_of name)
          (λ s. own_by_key name s.reported) totals _ _ t
          (quarters_known name totals t all.0) all.1));
    }
