use Rattle.std.proofs.Common.{◌≡◌, [], ◌∷◌, IsTrue, Ok, Err, true, false, inr, rules, refl, sym}
use Rattle.std.specs.Prelude.{is_err}
use Rattle.std.proofs.lemmas.Bool.{true≢false}
use Rattle.std.proofs.lemmas.List.{nil_from_length}
use Rattle.std.proofs.lemmas.List.Elements.{All-nil}
use Rattle.ftd_machine.specs.declared.replies.Refusal.TheVariants as refusal
use Rattle.ftd_store.specs.Seen.{seen}
use Rattle.ftd_desk.specs.Desks.{Held, held}
use Rattle.ftd_desk.specs.Unrefused.{IsReply}
use Rattle.ftd_desk.proofs.Handling.{none_known, at_err, at_ok}
use Rattle.ftd_desk.proofs.Handled.{together_committed, together_none, together_still}
use Rattle.ftd_desk.proofs.Handled.{together_uncommitted}
use Rattle.ftd_desk.proofs.Together.{served_all}
use Rattle.ftd_desk.proofs.Tried.{tries_answered, tries_dropped, tries_unbegun}
use Rattle.ftd_desk.proofs.desk.Desk.all_or_none.Goals as goal

pub returns-then-self-clause-asks : goal.returns-then-self-clause-asks
returns-then-self-clause-asks g c =
    together_still c.args.requests.now refusal.Store (inr refl) (held g.S.Store c.args.self.now)

pub returns-in_default-clause-asks : goal.returns-in_default-clause-asks
returns-in_default-clause-asks g c =
    let none : c.args.requests.now ≡ [] =
    nil_from_length c.args.requests.now c.in_default.ensures.cases in
    rw (none, c.new.ensures.items) (record {
      count = refl;
      replies = All-nil IsReply;
      handles = together_none (held g.S.Store c.args.self.now);
    })

pub returns-in-Err-clause-asks : goal.returns-in-Err-clause-asks
returns-in-Err-clause-asks g c =
    let none = c.replace-known.new.dest in
    let new : Held = record {
      db = seen g.S.Store c.begin.follows.lender-at-none;
      known = none;
    } in
    record {
      result = Err refusal.Store;
      tries = tries_unbegun c.args.requests.now refusal.Store (inr refl)
          (held g.S.Store c.args.self.now) new (search rules) (search rules)
          (none_known none (search rules) (search rules) (search rules));
      refused = tt;
    }

pub returns-in-Err-serve_all-clause-asks : goal.returns-in-Err-serve_all-clause-asks
returns-in-Err-serve_all-clause-asks g c =
    let call = c.in-Err-serve_all.ensures.call in
    let same : c.self-in-Err-serve_all-1.given.0 ≡ c.drop-tx.new.self.0 = sym (search rules) in
    rw same (record {
      result = Err refusal.Store;
      tries = tries_dropped _ _ _ _ _ c.in-Ok.ensures.crash c.in-Ok.ensures.begun call.frame.crash
          call.frame.kept c.drop-tx.ensures.undone c.drop-tx.ensures.crash c.drop-tx.ensures.opens
          (none_known c.replace-known.new.dest (search rules) (search rules) (search rules))
          refusal.Store (inr refl);
      refused = tt;
    })

pub returns-then-not-are_replies-clause-asks : goal.returns-then-not-are_replies-clause-asks
returns-then-not-are_replies-clause-asks g c =
    let call = c.in-Ok-serve_all.ensures.call in
    let served = c.in-Ok-serve_all.served in
    let all = c.in-Some.first.now ∷ c.in-Some.later.now in
    let whole : c.args.requests.now ≡ all = search rules in
    let same : c.self-then-not-are_replies-1.given.0 ≡ c.drop-tx-then-not-are_replies.new.self.0 =
    sym (search rules) in
    rw (same, whole) (record {
      result = Ok served.answers.items;
      tries = tries_answered _ _ _ _ _ c.in-Ok.ensures.crash c.in-Ok.ensures.begun
          call.frame.crash call.frame.kept c.drop-tx-then-not-are_replies.ensures.undone
          c.drop-tx-then-not-are_replies.ensures.crash c.drop-tx-then-not-are_replies.ensures.opens
          (none_known c.replace-known.new.dest (search rules) (search rules) (search rules))
          served.answers.items served.known
          (served_all g.S.Store c.args.self.now.known all _ _ _ served (search rules) call);
      refused = λ replies. (let t : IsTrue c.are_replies.result =
          c.are_replies.ensures.1 (rw c.deref.ensures.value replies) in
          true≢false (sym (rw c.if-not-are_replies.true at t)));
    })

pub returns-then-is_err-clause-asks : goal.returns-then-is_err-clause-asks
returns-then-is_err-clause-asks g c =
    let call = c.in-Ok-serve_all.ensures.call in
    let served = c.in-Ok-serve_all.served in
    let all = c.in-Some.first.now ∷ c.in-Some.later.now in
    let failed : is_err c.commit.result ≡ true = search rules in
    let whole : c.args.requests.now ≡ all = search rules in
    let same : c.self-2-1.given.0 ≡ c.commit.new.self.0 = sym (search rules) in
    rw (same, whole) (together_uncommitted _ _ _ _ _ c.in-Ok.ensures.crash c.in-Ok.ensures.begun
    call.frame.crash call.frame.kept served.answers.items served.known
    (served_all g.S.Store c.args.self.now.known all _ _ _ served (search rules) call)
    c.commit.ensures.crash
    (λ clean opened. at_err c.commit.result failed (c.commit.ensures.kept clean opened))
    (none_known c.replace-known.new.dest (search rules) (search rules) (search rules)))

pub returns-clause-asks : goal.returns-clause-asks
returns-clause-asks g c =
    let call = c.in-Ok-serve_all.ensures.call in
    let served = c.in-Ok-serve_all.served in
    let all = c.in-Some.first.now ∷ c.in-Some.later.now in
    let went : is_err c.commit.result ≡ false = search rules in
    let whole : c.args.requests.now ≡ all = search rules in
    let same : c.self-2-1.given.0 ≡ c.commit.new.self.0 = sym (search rules) in
    rw (same, whole) (record {
      count = c.in-Ok-serve_all.ensures.answers.count;
      replies = rw c.deref.ensures.value at c.are_replies.ensures.0
          (rw c.if-not-are_replies.false refl);
      handles = together_committed _ _ _ _ _ c.in-Ok.ensures.crash c.in-Ok.ensures.begun
          call.frame.crash call.frame.kept served.answers.items served.known
          (served_all g.S.Store c.args.self.now.known all _ _ _ served (search rules) call)
          c.commit.ensures.crash
          (λ clean. at_ok c.commit.result went (c.commit.ensures.ok clean))
          (λ clean. at_ok c.commit.result went (c.commit.ensures.lasts clean)) refl;
    })
