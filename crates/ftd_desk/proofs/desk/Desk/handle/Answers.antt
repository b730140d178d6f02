use Rattle.std.proofs.Common.{◌≡◌, true, false, inl, inr, Err, rules, refl, sym, subst}
use Rattle.std.specs.Prelude.{is_err}
use Rattle.ftd_sql.proofs.Controls.{crash_then, on_err}
use Rattle.ftd_store.specs.Seen.{seen, shown}
use Rattle.ftd_store.specs.declared.store.Store.{Store as StoreOf}
use Rattle.ftd_desk.specs.Desks.{Held, held}
use Rattle.ftd_machine.specs.Checks.{Answer}
use Rattle.ftd_machine.specs.Laws.{is_change}
use Rattle.ftd_machine.specs.Runs.{IsFault}
use Rattle.ftd_machine.specs.declared.replies.Refusal.TheVariants.{Store}
use Rattle.ftd_questions.specs.Faults.{refusal_of}
use Rattle.ftd_questions.proofs.RowsTold.{is_fault}
use Rattle.ftd_machine.specs.Questions.{question_of}
use Rattle.ftd_desk.specs.Shown.{ShowsAsked}
use Rattle.ftd_desk.specs.Words.{Handles}
use Rattle.ftd_desk.proofs.Showing.{asked_shows, change_shows, refusal_shows}
use Rattle.ftd_desk.proofs.Handling.{ServesBy, none_known, served_ok, served_err, served_less}
use Rattle.ftd_desk.proofs.Handling.{handles_dropped, handles_uncommitted, handles_committed}
use Rattle.ftd_desk.proofs.Handling.{at_err, at_ok, handles_still, handles_unbegun}
use Rattle.ftd_desk.proofs.desk.Desk.handle.Goals as goal

pub returns-then-self-clause-handles : goal.returns-then-self-clause-handles
returns-then-self-clause-handles g c =
    handles_still (held g.S.Store c.args.self.now) c.args.request.now (Err Store) (inr refl)

pub returns-in-Err-clause-handles : goal.returns-in-Err-clause-handles
returns-in-Err-clause-handles g c =
    let old = held g.S.Store c.args.self.now in
    let none = c.replace-known.new.dest in
    let new : Held = record {
      db = seen g.S.Store c.begin.follows.lender-at-none;
      known = none;
    } in
    let fault : IsFault (Err c.refusal_of.result) =
    subst (λ refusal. IsFault (Err refusal)) (sym c.refusal_of.ensures) (is_fault c.in-Err.fault) in
    handles_unbegun old new c.args.request.now (Err c.refusal_of.result)
    (search rules) (search rules)
    (none_known none (search rules) (search rules) (search rules)) fault

pub returns-then-not-is_change-clause-stops : goal.returns-then-not-is_change-clause-stops
returns-then-not-is_change-clause-stops g c =
    let same : c.self-then-not-is_change-1.given.0 ≡ c.drop-tx-then-not-is_change.new.self.0 =
    sym (search rules) in
    rw same (on_err c.bounded.result (inr (crash_then _ _ _ c.in-Ok.ensures.crash
    (crash_then _ _ _ c.in-Ok-serve_alone.ensures.call.frame.crash
    c.drop-tx-then-not-is_change.ensures.crash))))

pub returns-in-Err-serve_alone-clause-stops : goal.returns-in-Err-serve_alone-clause-stops
returns-in-Err-serve_alone-clause-stops g c =
    let same : c.self-in-Err-serve_alone-1.given.0 ≡ c.drop-tx.new.self.0 = sym (search rules) in
    inr (rw same (crash_then _ _ _ c.in-Ok.ensures.crash
    (crash_then _ _ _ c.in-Err-serve_alone.ensures.call.frame.crash c.drop-tx.ensures.crash)))

pub returns-then-not-is_change-clause-handles : goal.returns-then-not-is_change-clause-handles
returns-then-not-is_change-clause-handles g c =
    let old = held g.S.Store c.args.self.now in
    let b = shown g.S.Store c.in-Ok.tx in
    let m = shown g.S.Store c.serve_alone.new.tx in
    let end = c.drop-tx-then-not-is_change.new.self.0 in
    let served = c.in-Ok-serve_alone.served in
    let new : StoreOf g.row.S.Denot → Held = λ store. record {
      db = seen g.S.Store store;
      known = served.known;
    } in
    let same : end ≡ c.self-then-not-is_change-1.given.0 = search rules in
    let serves : ServesBy b m old.known served.known c.args.request.now served.answer =
    served_ok g.S.Store c.args.request.now old.known c.replace-known.result c.in-Ok.tx
    c.serve_alone.new.tx served (search rules) c.in-Ok-serve_alone.ensures.call
    in
    let quiet : is_change served.answer ≡ false = search rules in
    let dropped : (answer : Answer) → ServesBy b m old.known served.known c.args.request.now answer
    → is_change answer ≡ false → Handles old (new end) c.args.request.now answer =
    λ answer by stays.
    handles_dropped old (new end) b m served.known c.args.request.now answer c.in-Ok.ensures.crash
    c.in-Ok.ensures.begun by
    c.drop-tx-then-not-is_change.ensures.undone c.drop-tx-then-not-is_change.ensures.crash
    c.drop-tx-then-not-is_change.ensures.opens (λ s counted. counted) stays
    in
    subst (λ store. Handles old (new store) c.args.request.now c.bounded.result) same
    (elim c.bounded.ensures.same [
      | inl as_it_is ↦ subst (λ answer. Handles old (new end) c.args.request.now answer)
          (sym as_it_is) (dropped served.answer serves quiet)
      | inr fault ↦ subst (λ answer. Handles old (new end) c.args.request.now answer) (sym fault)
          (dropped (Err Store)
          (served_less b m old.known served.known c.args.request.now served.answer serves quiet)
          refl)
    ])

pub returns-then-is_err-clause-handles : goal.returns-then-is_err-clause-handles
returns-then-is_err-clause-handles g c =
    let failed : is_err c.commit.result ≡ true = search rules in
    let same : c.self-2-1.given.0 ≡ c.commit.new.self.0 = sym (search rules) in
    rw same (handles_uncommitted _ _ _ _ _ _ _ c.in-Ok.ensures.crash c.in-Ok.ensures.begun
    (served_ok g.S.Store _ c.args.self.now.known _ _ _ c.in-Ok-serve_alone.served (search rules)
    c.in-Ok-serve_alone.ensures.call)
    (λ clean opened. at_err c.commit.result failed (c.commit.ensures.kept clean opened))
    c.commit.ensures.crash
    (none_known c.replace-known.new.dest (search rules) (search rules) (search rules))
    (search rules))

pub returns-clause-handles : goal.returns-clause-handles
returns-clause-handles g c =
    let went : is_err c.commit.result ≡ false = search rules in
    let same : c.self-2-1.given.0 ≡ c.commit.new.self.0 = sym (search rules) in
    rw same (handles_committed _ _ _ _ _ _ _ c.in-Ok.ensures.crash c.in-Ok.ensures.begun
    (served_ok g.S.Store _ c.args.self.now.known _ _ _ c.in-Ok-serve_alone.served (search rules)
    c.in-Ok-serve_alone.ensures.call)
    (λ clean. at_ok c.commit.result went (c.commit.ensures.ok clean))
    (λ clean. at_ok c.commit.result went (c.commit.ensures.lasts clean)) c.commit.ensures.crash refl
    (search rules))

pub returns-in-Err-serve_alone-clause-handles : goal.returns-in-Err-serve_alone-clause-handles
returns-in-Err-serve_alone-clause-handles g c =
    let none = c.replace-known.new.dest in
    let same : c.self-in-Err-serve_alone-1.given.0 ≡ c.drop-tx.new.self.0 = sym (search rules) in
    let forgotten = none_known none (search rules) (search rules) (search rules) in
    rw (same, c.refusal_of-in-Err-serve_alone.ensures)
    (handles_dropped _ _ _ _ _ _ _ c.in-Ok.ensures.crash c.in-Ok.ensures.begun
    (served_err g.S.Store _ c.args.self.now.known none _ _ _ c.in-Err-serve_alone.fault
    (search rules) c.in-Err-serve_alone.ensures.call forgotten) c.drop-tx.ensures.undone
    c.drop-tx.ensures.crash c.drop-tx.ensures.opens (λ s counted. counted) refl)

pub returns-then-self-clause-shows : goal.returns-then-self-clause-shows
returns-then-self-clause-shows g c =
    λ clean t stands. refusal_shows (question_of c.args.request.now) Store t

pub returns-in-Err-clause-shows : goal.returns-in-Err-clause-shows
returns-in-Err-clause-shows g c =
    λ clean t stands. refusal_shows (question_of c.args.request.now) c.refusal_of.result t

pub returns-in-Err-serve_alone-clause-shows : goal.returns-in-Err-serve_alone-clause-shows
returns-in-Err-serve_alone-clause-shows g c =
    λ clean t stands. refusal_shows (question_of c.args.request.now)
    c.refusal_of-in-Err-serve_alone.result t

pub returns-then-not-is_change-clause-shows : goal.returns-then-not-is_change-clause-shows
returns-then-not-is_change-clause-shows g c =
    let old = seen g.S.Store c.args.self.now.store in
    let request = c.args.request.now in
    let end = c.drop-tx-then-not-is_change.new.self.0 in
    let served = c.in-Ok-serve_alone.served in
    let same : end ≡ c.self-then-not-is_change-1.given.0 = search rules in
    subst (λ (store : StoreOf g.row.S.Denot). ShowsAsked old (seen g.S.Store store) request
    c.bounded.result) same
    (elim c.bounded.ensures.same [
      | inl as_it_is ↦ subst (λ answer. ShowsAsked old (seen g.S.Store end) request answer)
          (sym as_it_is)
          (asked_shows g.S.Store old (seen g.S.Store end) request c.in-Ok.tx
          c.serve_alone.new.tx served c.in-Ok.ensures.begun
          c.drop-tx-then-not-is_change.ensures.crash c.in-Ok-serve_alone.ensures.shows)
      | inr fault ↦ subst (λ answer. ShowsAsked old (seen g.S.Store end) request answer)
          (sym fault) (λ clean t stands. refusal_shows (question_of request) Store t)
    ])

pub returns-then-is_err-clause-shows : goal.returns-then-is_err-clause-shows
returns-then-is_err-clause-shows g c =
    λ clean t stands. refusal_shows (question_of c.args.request.now) Store t

pub returns-clause-shows : goal.returns-clause-shows
returns-clause-shows g c =
    λ clean t stands. change_shows (question_of c.args.request.now)
    c.in-Ok-serve_alone.served.answer t (search rules)
