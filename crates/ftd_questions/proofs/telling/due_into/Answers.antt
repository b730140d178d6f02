use Rattle.std.proofs.Common.{inl, inr, refl, sym, ◌∙◌, subst}
use Rattle.std.proofs.lemmas.Bool.{cases_Bool, true≢false}
use Rattle.sqlite.specs.Held.{Held, state}
use Rattle.ftd_store.specs.Seen.{seen}
use Rattle.ftd_questions.specs.Walks.{StandIfOpen}
use Rattle.ftd_questions.proofs.DueTold.{rows_known}
use Rattle.ftd_questions.proofs.Walked.{clean_before, stand_still, if_ok}
use Rattle.ftd_questions.proofs.telling.due_into.Goals as goal

pub returns-in-Err-clause-tells : goal.returns-in-Err-clause-tells
returns-in-Err-clause-tells g c = λ clean s kept_if.
    let a = seen g.S.Store c.args.store.now in
    elim (cases_Bool a.is_open) [
      | inl on ↦
          let kept = kept_if on in
          elim (c.in-Err.ensures.knows clean kept.tables (λ on. kept.stands)) [
            | inl fault ↦ inr (fault, inl refl)
            | inr refuses ↦ inl (refuses s kept.stands_for, refl)
          ]
      | inr off ↦ inr (
        c.in-Err.ensures.shut clean (λ on. true≢false (sym on ∙ off)),
        inl refl,
      )
    ]

pub returns-clause-tells : goal.returns-clause-tells
returns-clause-tells g c = λ clean s kept_if.
    let last = rw c.lend.ensures.same at c.tell_quarter.ensures.stays in
    let clean_m = clean_before _ _ last.crash clean in
    let clean_b = clean_before _ _ c.return_has_next_day.ensures.stays.crash clean_m in
    let a = seen g.S.Store c.args.store.now in
    elim (cases_Bool a.is_open) [
      | inr off ↦ absurd (c.in-Ok.ensures.shut clean_b (λ on. true≢false (sym on ∙ off)))
      | inl on ↦
          let kept = kept_if on in
          let t = kept.tables in
          let stand_b = stand_still _ _ c.read_return.ensures.stays clean_b t (λ on. kept.stands) in
          let stand_m = stand_still _ _ c.return_has_next_day.ensures.stays clean_m t stand_b in
          let years = c.in-Ok.ensures.years in
          let knows = rows_known c.args.name.now c.args.quarter c.args.as_of c.in-Ok.known
          c.in-Ok-return_has_next_day.found c.quarter_return-of_return.result years.0 years.1
          c.quarter_return-of_return.ensures.stands t
          (c.in-Ok.ensures.knows clean_b t (λ on. kept.stands))
          (c.in-Ok-return_has_next_day.ensures.knows clean_m t stand_b) in
          c.tell_quarter.ensures.tells clean t
          (subst (λ (conn : Held g.row.S.Denot). StandIfOpen (state g.S.Store conn) t)
          (sym c.lend.ensures.same) stand_m) knows s kept.stands_for kept.sound
    ]

pub returns-clause-shows : goal.returns-clause-shows
returns-clause-shows g c = λ clean.
    let last = rw c.lend.ensures.same at c.tell_quarter.ensures.stays in
    let clean_m = clean_before _ _ last.crash clean in
    let clean_b = clean_before _ _ c.return_has_next_day.ensures.stays.crash clean_m in
    if_ok c.tell_quarter.result
    (λ done shows t stands. shows t
    (subst (λ (conn : Held g.row.S.Denot). StandIfOpen (state g.S.Store conn) t)
    (sym c.lend.ensures.same)
    (stand_still _ _ c.return_has_next_day.ensures.stays clean_m t
    (stand_still _ _ c.read_return.ensures.stays clean_b t stands))))
    (c.tell_quarter.ensures.shows clean)
