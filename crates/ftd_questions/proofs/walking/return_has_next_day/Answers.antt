use Rattle.std.proofs.Common.{◌≡◌, ◌<◌, ◌≤◌, false, inl, inr, sym, ◌∙◌, subst, arith}
use Rattle.std.specs.List.{list_any}
use Rattle.std.proofs.lemmas.Bool.{cases_lt}
use Rattle.sqlite.specs.Held.{Held, state}
use Rattle.ftd_store.specs.Seen.{seen}
use Rattle.ftd_machine.specs.Asking.{return_period}
use Rattle.ftd_questions.specs.DueRows.{is_next_day_row}
use Rattle.ftd_questions.specs.Walks.{Stays, StandIfOpen, begun}
use Rattle.sqlite.specs.State.{HasCleanDisk}
use Rattle.ftd_questions.proofs.NextDays.{some_begins, none_begins}
use Rattle.ftd_questions.proofs.Walked.{clean_before, stays_then, stand_still}
use Rattle.ftd_questions.proofs.walking.return_has_next_day.Goals as goal

pub loop-quarters-preserved : goal.loop-quarters-preserved
loop-quarters-preserved g c =
    let mid = seen g.S.Store c.loop-quarters.store in
    let new = state g.S.Store c.begins_next_day.new.conn in
    let step : Stays mid new =
    subst (λ (conn : Held g.row.S.Denot). Stays (state g.S.Store conn) new) c.lend.ensures.same
    c.begins_next_day.ensures.stays in
    let before : HasCleanDisk new → HasCleanDisk mid = clean_before mid new step.crash in
    record {
      stays = stays_then _ mid new c.loop-quarters.invariant.stays step;
      none = λ clean t stands s stands_for quarter low high.
          elim (cases_lt quarter c.loop-quarters.quarters) [
            | inl earlier ↦ c.loop-quarters.invariant.none (before clean) t stands s stands_for
                quarter low earlier
            | inr here ↦
                let same : c.at.result ≡ quarter = let at = c.at.ensures in omega arith in
                subst (λ n. list_any is_next_day_row (begun stands_for c.args.name.now n) ≡ false)
                same (sym (c.in_ok-begins_next_day.ensures.knows clean t
                (subst (λ (conn : Held g.row.S.Denot). StandIfOpen (state g.S.Store conn) t)
                (sym c.lend.ensures.same)
                (stand_still _ mid c.loop-quarters.invariant.stays (before clean) t stands))
                s stands_for)
                ∙ c.if-branch.false)
          ];
    }

pub returns-then-branch-clause-knows : goal.returns-then-branch-clause-knows
returns-then-branch-clause-knows g c = λ clean t stands s stands_for.
    let mid = seen g.S.Store c.loop-quarters.store in
    let new = state g.S.Store c.begins_next_day.new.conn in
    let step : Stays mid new =
    subst (λ (conn : Held g.row.S.Denot). Stays (state g.S.Store conn) new) c.lend.ensures.same
    c.begins_next_day.ensures.stays in
    let stood = subst (λ (conn : Held g.row.S.Denot). StandIfOpen (state g.S.Store conn) t)
    (sym c.lend.ensures.same)
    (stand_still _ mid c.loop-quarters.invariant.stays (clean_before mid new step.crash clean) t
    stands) in
    let low : c.quarters_of_return-first.result.0 ≤ c.at.result = let at = c.at.ensures in
    let from = c.loop-quarters.auto.quarters in omega arith in
    let high : c.at.result < c.quarters_of_return-first.result.1 = let at = c.at.ensures in
    let to = c.loop-quarters-test.true in omega arith in
    sym (some_begins c.args.form (return_period c.args.form c.args.quarter)
    c.quarters_of_return-first.result.0 c.quarters_of_return-first.result.1
    (stands_for.settled c.args.name.now).owed
    c.quarters_of_return-first.ensures.same c.at.result low high
    (sym (c.in_ok-begins_next_day.ensures.knows clean t stood s stands_for) ∙ c.if-branch.true))

pub returns-clause-knows : goal.returns-clause-knows
returns-clause-knows g c = λ clean t stands s stands_for.
    let end = c.loop-quarters-test.false in
    let most = c.loop-quarters.auto.quarters-end in
    let some = c.quarters_of_return-first.ensures.some in
    sym (none_begins c.args.form (return_period c.args.form c.args.quarter)
    c.quarters_of_return-first.result.0 c.quarters_of_return-first.result.1
    (stands_for.settled c.args.name.now).owed
    c.quarters_of_return-first.ensures.same
    (λ quarter low high. c.loop-quarters.invariant.none clean t stands s stands_for quarter low
    (omega arith)))
