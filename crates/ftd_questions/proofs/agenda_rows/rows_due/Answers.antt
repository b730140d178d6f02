use Rattle.std.proofs.Common.{List, Ok, rules, sym, subst, arith}
use Rattle.ftd_store.specs.Lists.{Pairs}
use Rattle.ftd_store.specs.declared.obligation_cells.AccountObligation.{AccountObligation}
use Rattle.ftd_store.specs.Frame.{Frame}
use Rattle.ftd_store.proofs.Going.{then_goes}
use Rattle.ftd_store.proofs.Replaced.{all_taken}
use Rattle.ftd_store.proofs.Telling.{reads_on, then_reads}
use Rattle.ftd_store.proofs.Turning.{gave_up_after}
use Rattle.ftd_questions.specs.Agendas.{KnowsLast, KnowsLastYears, IsLast, KnowsRow}
use Rattle.ftd_questions.specs.Listing.{ListsDue}
use Rattle.ftd_questions.proofs.AgendaRows.{so_far_more}
use Rattle.ftd_questions.proofs.agenda_rows.rows_due.Goals.{then-not-is_last+in_ok-last}
use Rattle.ftd_questions.proofs.agenda_rows.rows_due.Goals.{else-not-is_last}
use Rattle.ftd_questions.proofs.agenda_rows.rows_due.Goals as goal

pub loop-owed-init : goal.loop-owed-init
loop-owed-init g c = rw c.new-rows.ensures.items
    (reads_on tt _ c.in_ok-listed.ensures.call (λ t lists. record {
      lists = subst (λ xs. ListsDue c.args.unpaid c.args.from c.args.to xs t)
          (sym c.deref-owed-items.ensures.value) lists;
      are_rows = tt;
      last_is = tt;
      years_are = tt;
    }))

pub returns-in-Err : goal.returns-in-Err
returns-in-Err g c =
    let frame : Frame g.S.Store c.args.tx.now c.if-not-is_last.tx (Ok (tt {0})) =
    elim c.if-not-is_last.branch [
      | then-not-is_last+in_ok-last w ↦
          rw w.tx-is (then_goes tt c.loop-owed.invariant.frame w.in_ok-last.ensures.call.frame)
      | else-not-is_last w ↦ rw w.tx-is c.loop-owed.invariant.frame
    ] in
    record {
      call = gave_up_after frame c.give_up.ensures.frame c.give_up.ensures.fails;
    }

pub loop-owed-preserved : goal.loop-owed-preserved
loop-owed-preserved g c =
    let i = c.loop-owed.owed-index in
    let x : AccountObligation = c.owed-item.result in
    let some = c.loop-owed-test.true in
    let new = c.if-not-is_last.last in
    elim c.if-not-is_last.branch [
      | then-not-is_last+in_ok-last w ↦
          (let its : IsLast x new = subst (IsLast x) (sym w.last-is) w.in_ok-last.ensures.is in
          rw w.tx-is (then_reads tt _ c.loop-owed.invariant w.in_ok-last.ensures.call
          (λ t so_far knows. so_far_more _ _ _ _ _ i x _ _ _ new t some c.owed-item.is its
          c.in_default.ensures so_far
          (subst (λ l. KnowsLast c.args.as_of l t × KnowsLastYears l t) (sym w.last-is)
          (knows so_far.years_are)))))
      | else-not-is_last w ↦
          (let its : IsLast x new = subst (IsLast x) (sym w.last-is)
          (c.is_last.ensures (search (rules, w.if-not-is_last.false))) in
          rw w.tx-is (reads_on tt _ c.loop-owed.invariant
          (λ t so_far. so_far_more _ _ _ _ _ i x _ _ _ new t some c.owed-item.is its
          c.in_default.ensures so_far
          (subst (λ l. KnowsLast c.args.as_of l t × KnowsLastYears l t) (sym w.last-is)
          (so_far.last_is, so_far.years_are)))))
    ]

pub returns : goal.returns
returns g c =
    let items : List AccountObligation = c.deref-owed-items.result.now in
    let end = c.loop-owed-test.false in
    record {
      call = reads_on c.loop-owed.rows _ c.loop-owed.invariant (λ t so_far. record {
        owed = items;
        listed = so_far.lists;
        are_rows = subst (λ os. Pairs (KnowsRow c.args.as_of t) os c.loop-owed.rows.items)
            (all_taken items c.loop-owed.owed-index (omega arith)) so_far.are_rows;
      });
    }
