use Rattle.std.proofs.Common.{[], ◌∷◌, ◌++◌, Err, refl, sym, ◌∙◌, subst}
use Rattle.ftd_store.specs.declared.faults.StoreFault.TheVariants.{Failed}
use Rattle.ftd_store.specs.Walking.{walked}
use Rattle.ftd_questions.specs.DueRows.{IsRowBy}
use Rattle.ftd_questions.specs.Telling.{Tells}
use Rattle.ftd_store.proofs.Items.{pairs_more}
use Rattle.ftd_questions.proofs.RowsTold.{taken_more, tells_all, store_failed, row_failed}
use Rattle.ftd_questions.proofs.Shown.{walk_shown}
use Rattle.ftd_questions.proofs.Walked.{clean_before, stays_none, stays_same, stays_then}
use Rattle.ftd_questions.proofs.Walked.{walks_none, walks_more, all_known, all_listed}
use Rattle.ftd_questions.proofs.telling.tell_rows.Goals as goal

pub loop-init : goal.loop-init
loop-init g c = record {
  same = refl;
  stays = stays_none _;
  told = ([], [], tt, refl, walks_none g.S.Store c.args.rows.now);
}

pub returns-in-Ok-None-clause-tells : goal.returns-in-Ok-None-clause-tells
returns-in-Ok-None-clause-tells g c = λ clean name quarter has t stands knows s stands_for sound.
    let so_far = c.loop.invariant.told in
    let all = all_known name quarter so_far.0 t
    (all_listed g.S.Store c.args.rows.now c.loop.rows c.next_obligation.new.rows so_far.0 so_far.4
    c.next_obligation.ensures.crash c.in-Ok-None.ensures.same c.in-Ok-None.field-0
    c.in-Ok-None.ensures.next c.in-Ok-None.field-0-is clean name quarter has t stands)
    s stands_for in
    tells_all g.K.DueSink.took g.K.DueSink.broke name quarter c.args.as_of c.args.of_return.now t
    knows s stands_for sound so_far.0 so_far.1 so_far.2 c.args.sink.now c.loop.sink all so_far.3

pub returns-in-Ok-None-clause-shows : goal.returns-in-Ok-None-clause-shows
returns-in-Ok-None-clause-shows g c = λ clean name quarter has t stands.
    let so_far = c.loop.invariant.told in (
      so_far.1,
      so_far.3,
      walk_shown name quarter c.args.of_return.now c.args.as_of so_far.0 so_far.1 t
          (all_listed g.S.Store c.args.rows.now c.loop.rows c.next_obligation.new.rows so_far.0
          so_far.4 c.next_obligation.ensures.crash c.in-Ok-None.ensures.same c.in-Ok-None.field-0
          c.in-Ok-None.ensures.next c.in-Ok-None.field-0-is clean name quarter has t stands)
          so_far.2,
    )

pub returns-in-Err-clause-tells : goal.returns-in-Err-clause-tells
returns-in-Err-clause-tells g c = λ clean name quarter has t stands knows s stands_for sound.
    let so_far = c.loop.invariant.told in
    let first = so_far.4.first
    (clean_before (walked g.S.Store c.loop.rows) (walked g.S.Store c.next_obligation.new.rows)
    c.next_obligation.ensures.crash clean) name quarter has t stands s stands_for in
    subst (λ fault. Tells g.K.DueSink.took g.K.DueSink.broke s name quarter c.args.as_of
    c.args.sink.now c.loop.sink (Err fault)) (sym c.from.ensures)
    (store_failed g.K.DueSink.took g.K.DueSink.broke name quarter c.args.as_of c.args.of_return.now
    t knows s stands_for sound so_far.0 so_far.1 so_far.2 c.args.sink.now c.loop.sink first.0
    first.1 so_far.3 c.in-Err.fault)

pub returns-in-Err-tell_row-clause-tells : goal.returns-in-Err-tell_row-clause-tells
returns-in-Err-tell_row-clause-tells g c = λ clean name quarter has t stands knows s stands_for
    sound.
    let so_far = c.loop.invariant.told in
    let o = c.in-Ok-Some.obligation in
    let more = walks_more g.S.Store c.args.rows.now c.loop.rows c.next_obligation.new.rows so_far.0
    so_far.4 c.next_obligation.ensures.crash c.in-Ok-Some.ensures.same c.in-Ok-Some.field-0
    c.in-Ok-Some.ensures.next o c.in-Ok-Some.field-0-is in
    let first = more.first clean name quarter has t stands s stands_for in
    row_failed g.K.DueSink.took g.K.DueSink.broke name quarter c.args.as_of c.args.of_return.now t
    knows s stands_for sound so_far.0 so_far.1 so_far.2 c.args.sink.now c.tell_row.new.sink o
    first.0 c.loop.sink first.1 so_far.3 c.in-Err-tell_row.fault
    (λ refusal refused. c.in-Err-tell_row.ensures.refused refusal (λ i. Err (refused i)))
    (λ broken. c.in-Err-tell_row.ensures.broke (λ i. Err (broken i)))

pub loop-preserved : goal.loop-preserved
loop-preserved g c =
    let so_far = c.loop.invariant.told in
    let o = c.in-Ok-Some.obligation in
    let taken = c.in_default.ensures.took in
    record {
      same = c.next_obligation.ensures.same_reference ∙ c.loop.invariant.same;
      stays = stays_then _ (walked g.S.Store c.loop.rows) _ c.loop.invariant.stays
          (stays_same _ _ c.in-Ok-Some.ensures.same c.next_obligation.ensures.crash);
      told = (
        so_far.0 ++ o ∷ [],
        so_far.1 ++ taken.0 ∷ [],
        pairs_more (IsRowBy c.args.of_return.now c.args.as_of) so_far.0 so_far.1 o taken.0 so_far.2
            taken.1,
        taken_more g.K.DueSink.took c.args.sink.now c.loop.sink c.tell_row.new.sink so_far.1 taken.0
            so_far.3 taken.2,
        walks_more g.S.Store c.args.rows.now c.loop.rows c.next_obligation.new.rows so_far.0
            so_far.4 c.next_obligation.ensures.crash c.in-Ok-Some.ensures.same
            c.in-Ok-Some.field-0 c.in-Ok-Some.ensures.next o c.in-Ok-Some.field-0-is,
      );
    }

pub returns-clause-tells : goal.returns-clause-tells
returns-clause-tells g c = λ clean name quarter has t stands knows s stands_for sound.
    let so_far = c.loop.invariant.told in
    let first = so_far.4.first clean name quarter has t stands s stands_for in
    subst (λ fault. Tells g.K.DueSink.took g.K.DueSink.broke s name quarter c.args.as_of
    c.args.sink.now c.loop.sink (Err fault)) (sym c.from-2.ensures)
    (store_failed g.K.DueSink.took g.K.DueSink.broke name quarter c.args.as_of c.args.of_return.now
    t knows s stands_for sound so_far.0 so_far.1 so_far.2 c.args.sink.now c.loop.sink first.0
    first.1 so_far.3 Failed)
