use Rattle.std.proofs.Common.{◌≡◌, [], ◌∷◌, inr, rules, refl, sym}
use Rattle.std.proofs.lemmas.List.{nil_from_length}
use Rattle.ftd_machine.specs.declared.replies.Refusal.TheVariants as refusal
use Rattle.ftd_store.specs.declared.store.Store.{Store}
use Rattle.ftd_desk.specs.Desks.{held}
use Rattle.ftd_desk.proofs.Handling.{none_known}
use Rattle.ftd_desk.proofs.Handled.{refused}
use Rattle.ftd_desk.proofs.Together.{served_all}
use Rattle.ftd_desk.proofs.Tried.{tries_answered, tries_dropped, tries_none, tries_still}
use Rattle.ftd_desk.proofs.desk.Desk.trial.Goals as goal

pub returns-then-self-clause-trial : goal.returns-then-self-clause-trial
returns-then-self-clause-trial g c =
    tries_still c.args.requests.now refusal.Store (inr refl) (held g.S.Store c.args.self.now)

pub returns-in_default-clause-trial : goal.returns-in_default-clause-trial
returns-in_default-clause-trial g c =
    let none : c.args.requests.now ≡ [] =
    nil_from_length c.args.requests.now c.in_default.ensures.cases in
    rw (none, c.new.ensures.items) (tries_none (held g.S.Store c.args.self.now))

pub returns-in-Ok-serve_all-clause-trial : goal.returns-in-Ok-serve_all-clause-trial
returns-in-Ok-serve_all-clause-trial g c =
    let call = c.in-Ok-serve_all.ensures.call in
    let served = c.in-Ok-serve_all.served in
    let all = c.in-Some.first.now ∷ c.in-Some.later.now in
    let whole : c.args.requests.now ≡ all = search rules in
    let same : c.self-in-Ok-serve_all-1.given.0 ≡ c.drop-tx.new.self.0 = sym (search rules) in
    rw (same, whole) (tries_answered _ _ _ _ _ c.in-Ok.ensures.crash c.in-Ok.ensures.begun
    call.frame.crash call.frame.kept c.drop-tx.ensures.undone c.drop-tx.ensures.crash
    c.drop-tx.ensures.opens
    (none_known c.replace-known.new.dest (search rules) (search rules) (search rules))
    served.answers.items served.known
    (served_all g.S.Store c.args.self.now.known all _ _ _ served (search rules) call))

pub returns-clause-trial : goal.returns-clause-trial
returns-clause-trial g c =
    let call = c.in-Err-serve_all.ensures.call in
    let same : c.self-2-1.given.0 ≡ c.drop-tx-2.new.self.0 = sym (search rules) in
    rw (same, c.refusal_of-in-Err-serve_all.ensures)
    (tries_dropped _ _ _ _ _ c.in-Ok.ensures.crash c.in-Ok.ensures.begun call.frame.crash
    call.frame.kept c.drop-tx-2.ensures.undone c.drop-tx-2.ensures.crash c.drop-tx-2.ensures.opens
    (none_known c.replace-known.new.dest (search rules) (search rules) (search rules)) _
    (refused c.in-Err-serve_all.fault))
