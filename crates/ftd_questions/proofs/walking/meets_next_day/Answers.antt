use Rattle.std.proofs.Common.{◌++◌, ◌∷◌, [], ◌∙◌, sym, ap}
use Rattle.std.specs.List.{list_any}
use Rattle.ftd_store.specs.Walking.{walked}
use Rattle.ftd_questions.specs.DueRows.{is_next_day_row}
use Rattle.ftd_questions.proofs.Walked.{stays_same, stays_then, walks_more}
use Rattle.ftd_questions.proofs.Walked.{all_known, all_listed}
use Rattle.ftd_questions.proofs.Walked.{any_more, none_more}
use Rattle.ftd_questions.proofs.walking.meets_next_day.Goals as goal

pub returns-in-None-clause-knows : goal.returns-in-None-clause-knows
returns-in-None-clause-knows g c clean name quarter has t stands s stands_for =
    let so_far = c.loop.invariant.listed in
    sym (ap (list_any is_next_day_row)
    (all_known name quarter so_far.0 t
    (all_listed g.S.Store c.args.rows.now c.loop.rows c.next_obligation.new.rows so_far.0 so_far.2
    c.next_obligation.ensures.crash c.in_ok-obligation.ensures.same c.in_ok-obligation.field-0
    c.in_ok-obligation.ensures.next c.in-None.is clean name quarter has t stands) s stands_for)
    ∙ so_far.1)

pub returns-then-is_next_day-clause-knows : goal.returns-then-is_next_day-clause-knows
returns-then-is_next_day-clause-knows g c clean name quarter has t stands s stands_for =
    let so_far = c.loop.invariant.listed in
    let o = c.in-Some.obligation in
    let more = walks_more g.S.Store c.args.rows.now c.loop.rows c.next_obligation.new.rows so_far.0
    so_far.2 c.next_obligation.ensures.crash c.in_ok-obligation.ensures.same
    c.in_ok-obligation.field-0 c.in_ok-obligation.ensures.next o c.in-Some.is in
    let first = more.first clean name quarter has t stands s stands_for in
    sym (ap (list_any is_next_day_row) first.1 ∙ any_more is_next_day_row so_far.0 o first.0
    (sym c.is_next_day.ensures ∙ c.if-is_next_day.true))

pub loop-preserved : goal.loop-preserved
loop-preserved g c =
    let so_far = c.loop.invariant.listed in
    let o = c.in-Some.obligation in
    record {
      same = c.next_obligation.ensures.same_reference ∙ c.loop.invariant.same;
      stays = stays_then _ (walked g.S.Store c.loop.rows) _ c.loop.invariant.stays
          (stays_same _ _ c.in_ok-obligation.ensures.same c.next_obligation.ensures.crash);
      listed = (
        so_far.0 ++ o ∷ [],
        none_more is_next_day_row so_far.0 o so_far.1 (sym c.is_next_day.ensures
            ∙ c.if-is_next_day.false),
        walks_more g.S.Store c.args.rows.now c.loop.rows c.next_obligation.new.rows so_far.0
            so_far.2 c.next_obligation.ensures.crash c.in_ok-obligation.ensures.same
            c.in_ok-obligation.field-0 c.in_ok-obligation.ensures.next o c.in-Some.is,
      );
    }
