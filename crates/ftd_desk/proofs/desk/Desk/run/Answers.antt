use Rattle.std.proofs.Common.{◌≡◌, ◌∙◌, ◌+◌, sym, ap, subst, arith, take, length, List, ◌∷◌, ◌++◌}
use Rattle.std.proofs.Common.{[], Err, refl}
use Rattle.std.proofs.Math.Seq.{take-length}
use Rattle.std.proofs.lemmas.List.{take_more}
use Rattle.std.proofs.lemmas.List.Elements.{All-nil, All-push}
use Rattle.ftd_machine.specs.declared.replies.Refusal.TheVariants.{Store}
use Rattle.ftd_desk.specs.Desks.{IsStopped, held}
use Rattle.ftd_machine.specs.declared.requests.Request.{Request}
use Rattle.ftd_desk.specs.Words.{HandlesAll}
use Rattle.ftd_desk.proofs.Running.{all_none, all_one, all_then}
use Rattle.ftd_desk.proofs.desk.Desk.run.Goals as goal

pub loop-request-init : goal.loop-request-init
loop-request-init g c = record {
  count = c.in_ok-answers.ensures.len;
  room = c.in_ok-answers.ensures.capacity;
  handles = rw c.in_ok-answers.ensures.items (all_none (IsStopped c.args.self.now)
      (held g.S.Store c.args.self.now));
  stopped = λ was. (
    rw c.in_ok-answers.ensures.items (All-nil (λ answer. answer ≡ Err Store)),
    refl,
  );
}

pub push_reserved-requires : goal.push_reserved-requires
push_reserved-requires g c =
    let count = c.loop-request.invariant.count in
    let room = c.loop-request.invariant.room in
    let below = c.loop-request-test.true in
    omega arith

pub loop-request-preserved : goal.loop-request-preserved
loop-request-preserved g c =
    let xs : List Request = c.args.requests.now in
    let i = c.loop-request.request-index in
    let x : Request = c.request-item.result in
    let failed = IsStopped c.loop-request.self in
    let later = IsStopped c.handle-answer.new.self in
    let between = held g.S.Store c.loop-request.self in
    let after = held g.S.Store c.handle-answer.new.self in
    let answer = c.handle-answer.result in
    let one = all_one later between after x answer c.handle-answer.ensures.handles
    c.handle-answer.ensures.stops in
    let stays : failed → later = λ was. subst (λ desk. IsStopped desk)
    (sym (c.handle-answer.ensures.stopped was).1) was in
    let more : take (i + 1) xs ≡ take i xs ++ x ∷ [] = take_more xs i x c.loop-request-test.true
    ∙ ap (λ y. take i xs ++ y ∷ []) (sym c.request-item.is) in
    record {
      count = c.push_reserved.ensures.len ∙ ap (λ n. n + 1) c.loop-request.invariant.count;
      room = rw c.push_reserved.ensures.capacity c.loop-request.invariant.room;
      handles = rw (more, c.push_reserved.ensures.items)
          (all_then failed later (held g.S.Store c.args.self.now) between after _ _ (x ∷ [])
          (answer ∷ []) stays c.loop-request.invariant.handles one);
      stopped = λ was.
          let so_far = c.loop-request.invariant.stopped was in
          let same = c.handle-answer.ensures.stopped
          (subst (λ desk. IsStopped desk) (sym so_far.1) was) in (
            rw c.push_reserved.ensures.items
                (All-push (λ it. it ≡ Err Store) c.loop-request.answers.items answer so_far.0
                same.0),
            same.1 ∙ so_far.1,
          );
    }

pub returns-clause-stopped : goal.returns-clause-stopped
returns-clause-stopped g c = c.loop-request.invariant.stopped

pub returns-clause-runs : goal.returns-clause-runs
returns-clause-runs g c =
    let xs : List Request = c.args.requests.now in
    let i = c.loop-request.request-index in
    let at_end : i ≡ length xs = let low = c.loop-request-test.false in
    let high = c.loop-request.auto.request-index-end in omega arith in
    let all : take i xs ≡ xs = rw at_end (take-length xs) in
    subst (λ ys. HandlesAll (IsStopped c.loop-request.self) (held g.S.Store c.args.self.now)
    (held g.S.Store c.loop-request.self) ys c.loop-request.answers.items) all
    c.loop-request.invariant.handles
