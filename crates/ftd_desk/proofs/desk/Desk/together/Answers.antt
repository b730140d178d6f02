use Rattle.std.proofs.Common.{◌≡◌, [], ◌∷◌, true, false, inr, rules, refl, sym}
use Rattle.std.specs.Prelude.{is_err}
use Rattle.std.proofs.lemmas.List.{nil_from_length}
use Rattle.ftd_machine.specs.declared.replies.Refusal.TheVariants as refusal
use Rattle.ftd_sql.proofs.Controls.{crash_then}
use Rattle.ftd_store.specs.declared.store.Store.{Store}
use Rattle.ftd_desk.specs.Desks.{held}
use Rattle.ftd_desk.proofs.Handling.{none_known, at_err, at_ok}
use Rattle.ftd_desk.proofs.Handled.{refused, together_dropped, together_uncommitted}
use Rattle.ftd_desk.proofs.Handled.{together_committed, together_none, together_still}
use Rattle.ftd_desk.proofs.Together.{served_all}
use Rattle.ftd_desk.proofs.desk.Desk.together.Goals as goal

pub returns-then-self-clause-together : goal.returns-then-self-clause-together
returns-then-self-clause-together g c =
    together_still c.args.requests.now refusal.Store (inr refl) (held g.S.Store c.args.self.now)

pub returns-in_default-clause-together : goal.returns-in_default-clause-together
returns-in_default-clause-together g c =
    let none : c.args.requests.now ≡ [] =
    nil_from_length c.args.requests.now c.in_default.ensures.cases in
    rw (none, c.new.ensures.items) (together_none (held g.S.Store c.args.self.now))

pub returns-then-is_err-clause-together : goal.returns-then-is_err-clause-together
returns-then-is_err-clause-together g c =
    let call = c.in-Ok-serve_all.ensures.call in
    let served = c.in-Ok-serve_all.served in
    let all = c.in-Some.first.now ∷ c.in-Some.later.now in
    let failed : is_err c.commit.result ≡ true = search rules in
    let whole : c.args.requests.now ≡ all = search rules in
    let same : c.self-2-1.given.0 ≡ c.commit.new.self.0 = sym (search rules) in
    rw (same, whole) (together_uncommitted _ _ _ _ _ c.in-Ok.ensures.crash c.in-Ok.ensures.begun
    call.frame.crash call.frame.kept served.answers.items served.known
    (served_all g.S.Store c.args.self.now.known all _ _ _ served (search rules) call)
    c.commit.ensures.crash
    (λ clean opened. at_err c.commit.result failed (c.commit.ensures.kept clean opened))
    (none_known c.replace-known.new.dest (search rules) (search rules) (search rules)))

pub returns-clause-together : goal.returns-clause-together
returns-clause-together g c =
    let call = c.in-Ok-serve_all.ensures.call in
    let served = c.in-Ok-serve_all.served in
    let all = c.in-Some.first.now ∷ c.in-Some.later.now in
    let went : is_err c.commit.result ≡ false = search rules in
    let whole : c.args.requests.now ≡ all = search rules in
    let same : c.self-2-1.given.0 ≡ c.commit.new.self.0 = sym (search rules) in
    rw (same, whole) (together_committed _ _ _ _ _ c.in-Ok.ensures.crash c.in-Ok.ensures.begun
    call.frame.crash call.frame.kept served.answers.items served.known
    (served_all g.S.Store c.args.self.now.known all _ _ _ served (search rules) call)
    c.commit.ensures.crash
    (λ clean. at_ok c.commit.result went (c.commit.ensures.ok clean))
    (λ clean. at_ok c.commit.result went (c.commit.ensures.lasts clean)) refl)

pub returns-in-Err-serve_all-clause-together : goal.returns-in-Err-serve_all-clause-together
returns-in-Err-serve_all-clause-together g c =
    let call = c.in-Err-serve_all.ensures.call in
    let same : c.self-in-Err-serve_all-1.given.0 ≡ c.drop-tx.new.self.0 = sym (search rules) in
    rw (same, c.refusal_of-in-Err-serve_all.ensures)
    (together_dropped _ _ _ _ _ c.in-Ok.ensures.crash c.in-Ok.ensures.begun call.frame.crash
    call.frame.kept _ (refused c.in-Err-serve_all.fault) c.drop-tx.ensures.undone
    c.drop-tx.ensures.crash c.drop-tx.ensures.opens
    (none_known c.replace-known.new.dest (search rules) (search rules) (search rules)))

pub returns-in-Err-serve_all-clause-keeps : goal.returns-in-Err-serve_all-clause-keeps
returns-in-Err-serve_all-clause-keeps g c =
    let same : c.self-in-Err-serve_all-1.given.0 ≡ c.drop-tx.new.self.0 = sym (search rules) in
    inr (rw same (crash_then _ _ _ c.in-Ok.ensures.crash
    (crash_then _ _ _ c.in-Err-serve_all.ensures.call.frame.crash c.drop-tx.ensures.crash)))
