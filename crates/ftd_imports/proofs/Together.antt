-- Lists of posts: all of them together, or none and then one after the other.
use Rattle.std.proofs.Common.{◌≡◌, ◌∙◌, refl, sym, ap, subst, inl, inr, IsTrue, true, Ok, Err}
use Rattle.std.proofs.Common.{List, [], ◌∷◌, ◌++◌, Result, length, rules}
use Rattle.std.specs.List.{list_any}
use Rattle.std.proofs.lemmas.Bool.{true≢false, cases_Bool}
use Rattle.std.proofs.lemmas.List.{append-nil}
use Rattle.std.proofs.lemmas.List.Elements.{All-nil}
use Rattle.sqlite.specs.Tree.{Trees}
use Rattle.sqlite.specs.State.{HasCleanDisk, Survives}
use Rattle.sqlite.proofs.StateLemmas.{survives_then, survives_weaker}
use Rattle.ftd_machine.specs.State.{State}
use Rattle.ftd_machine.specs.Checks.{Answer}
use Rattle.ftd_machine.specs.Laws.{is_change}
use Rattle.ftd_machine.specs.Runs.{IsFault, IsRun}
use Rattle.ftd_machine.specs.Sound.{IsSound}
use Rattle.ftd_machine.specs.declared.replies.Refusal.{Refusal}
use Rattle.ftd_machine.specs.declared.replies.Refusal.TheVariants as refusal
use Rattle.ftd_machine.specs.declared.requests.Request.{Request}
use Rattle.ftd_machine.proofs.Alike.{answers_once}
use Rattle.ftd_machine.proofs.Soundness.{step_sound}
use Rattle.ftd_desk.specs.Desks.{Held, Keeps}
use Rattle.ftd_desk.specs.Words.{AreSteps, HandlesAll, HandlesTogether, MayLeaveAll, MayLeaveRun}
use Rattle.ftd_desk.proofs.Running.{LeavesOf, MayLeaveRunOf, faults_run, leaving_then}
use Rattle.ftd_desk.proofs.Running.{open_where_changed, run_after, run_whole, still_first}
use Rattle.ftd_imports.specs.Imports.{HandlesOrLeaves, MayLeaveEither}

-- what a crash may leave of a list of requests
abbrev pub MayLeaveAllOf : Held → List Request → Result (List Answer) Refusal → Trees → Type 0
MayLeaveAllOf old requests result left =
    LeavesOf (λ s trees. MayLeaveAll s requests result trees) old left

-- the machine's steps are a run
run_of_steps : (s : State) (xs : List Request) (ps : List Answer) (end : State)
    → AreSteps s xs ps end → IsRun s xs ps end
run_of_steps s [] [] end are = are
run_of_steps s [] (p ∷ ps) end are = absurd are
run_of_steps s (x ∷ xs) [] end are = absurd are
run_of_steps s (x ∷ xs) (p ∷ ps) end are = (are.0, inl are.1, run_of_steps are.0 xs ps end are.2)

-- steps go on with more steps
pub steps_then : (s : State) (xs : List Request) (ps : List Answer) (mid : State)
    (ys : List Request) (qs : List Answer) (end : State) → AreSteps s xs ps mid
    → AreSteps mid ys qs end → AreSteps s (xs ++ ys) (ps ++ qs) end
steps_then s [] [] mid ys qs end first second = subst (λ from. AreSteps from ys qs end) first second
steps_then s [] (p ∷ ps) mid ys qs end first second = absurd first
steps_then s (x ∷ xs) [] mid ys qs end first second = absurd first
steps_then s (x ∷ xs) (p ∷ ps) mid ys qs end first second =
    (first.0, first.1, steps_then first.0 xs ps mid ys qs end first.2 second)

-- in a sound state they have one list of answers, and one end
steps_once : (s : State) (xs : List Request) (ps qs : List Answer) (m n : State) → IsSound s
    → AreSteps s xs ps m → AreSteps s xs qs n → (ps ≡ qs) × (m ≡ n)
steps_once s [] [] [] m n sound g h = (refl, g ∙ sym h)
steps_once s [] [] (q ∷ qs) m n sound g h = absurd h
steps_once s [] (p ∷ ps) qs m n sound g h = absurd g
steps_once s (x ∷ xs) [] qs m n sound g h = absurd g
steps_once s (x ∷ xs) (p ∷ ps) [] m n sound g h = absurd h
steps_once s (x ∷ xs) (p ∷ ps) (q ∷ qs) m n sound g h =
    let one = answers_once s x p q g.0 h.0 sound g.1 h.1 in
    let more = steps_once g.0 xs ps qs m n (step_sound s x p g.0 g.1 sound) g.2
    (subst (λ from. AreSteps from xs qs n) (sym one.1) h.2) in
    (ap (λ it. it ∷ ps) one.0 ∙ ap (λ its. q ∷ its) more.0, more.1)

-- the state after a whole list is that of the run whose answers were given
whole : (failed : Type 0) (s : State) (xs : List Request) (ps : List Answer) (left : Trees)
    → MayLeaveAll s xs (Ok ps) left → MayLeaveRun failed s xs ps left
whole failed s xs ps left m =
    let first = sym (append-nil xs) in
    let told = sym (append-nil ps) in
    let run = run_of_steps s xs ps m.end
    (subst (λ qs. AreSteps s xs qs m.end) (sym m.told) m.steps) in
    search rules

-- these answers are those of a list that met a fault
with_answers : (s : State) (xs : List Request) (ps : List Answer) (end : State) (why : Refusal)
    (left : Trees) → IsSound s → AreSteps s xs ps end → MayLeaveAll s xs (Err why) left
    → MayLeaveAll s xs (Ok ps) left
with_answers s xs ps end why left sound steps m =
    let told = (steps_once s xs ps m.answers end m.end sound steps m.steps).0 in search rules

-- whatever the fault was
met_fault : (s : State) (xs : List Request) (why : Refusal) (left : Trees)
    → MayLeaveAll s xs (Err why) left → MayLeaveAll s xs (Err refusal.Store) left
met_fault s xs why left m = search rules

-- a list that was answered is a run of its requests
pub all_together : (failed : Type 0) (a b : Held) (xs : List Request) (ps : List Answer)
    → length ps ≡ length xs → HandlesTogether a b xs (Ok ps) → HandlesAll failed a b xs ps
all_together failed a b xs ps count h = record {
  count = count;
  honest = h.honest;
  opens = h.opens;
  answered = λ clean s keeps. let done = h.answered clean s keeps in
      (done.0, run_of_steps s xs ps done.0 done.1, done.2);
  shut = h.shut;
  crash = survives_weaker a.db b.db (MayLeaveAllOf a xs (Ok ps)) (MayLeaveRunOf failed a xs ps)
      (λ clean left may. (may.0, λ s keeps. whole failed s xs ps left (may.1 s keeps))) h.crash;
  lasts = λ clean change s keeps left may.
      let done = h.answered clean s keeps in
      let lasts = h.lasts clean change in
      run_whole failed s done.0 xs ps b left (run_of_steps s xs ps done.0 done.1) (done.2 lasts.0)
      (lasts.1 left may);
}

-- a list that met a fault leaves the state
still : (a b : Held) (xs : List Request) (why : Refusal) → HandlesTogether a b xs (Err why)
    → HasCleanDisk b.db → IsTrue b.db.is_open → (s : State) → Keeps a s → Keeps b s
still a b xs why h clean is_open s keeps = let back = h.answered clean s keeps in
    subst (λ (end : State). Keeps b end) back.1.1 (back.2 is_open)

-- and where a crash finds none of it, nothing was asked
pub none_together : (failed : Type 0) (a b : Held) (xs : List Request) (why : Refusal)
    → HandlesTogether a b xs (Err why) → Survives a.db b.db (λ _. ⊥) → HandlesAll failed a b [] []
none_together failed a b xs why h crash = record {
  count = refl;
  honest = h.honest;
  opens = h.opens;
  answered = λ clean s keeps. (s, refl, λ is_open. still a b xs why h clean is_open s keeps);
  shut = λ clean closed. All-nil IsFault;
  crash = survives_weaker a.db b.db (λ _. ⊥) (MayLeaveRunOf failed a [] [])
      (λ clean left none. absurd none) crash;
  lasts = λ clean change. absurd (true≢false (sym change));
}

module _ (failed : Type 0) (a b c : Held) (list : List Request) (why : Refusal)
    (xs : List Request) (ps : List Answer) (p : HandlesTogether a b list (Err why))
    (q : HandlesAll failed b c xs ps) where
  -- what was answered after a list that met a fault
  again_answered : HasCleanDisk c.db → (s : State) → Keeps a s
      → (end : State) × IsRun s xs ps end × (IsTrue c.db.is_open → Keeps c end)
  again_answered clean s keeps = elim (cases_Bool b.db.is_open) [
    | inl is_open ↦ q.answered clean s (still a b list why p (q.honest clean) is_open s keeps)
    | inr closed ↦ (
      s,
      faults_run s xs ps q.count (q.shut clean (λ is_open. true≢false (sym is_open ∙ closed))),
      λ is_open. absurd (true≢false (sym (q.opens clean is_open) ∙ closed)),
    )
  ]

  again_lasts : HasCleanDisk c.db → list_any is_change ps ≡ true → (s : State) → Keeps a s
      → (left : Trees) → c.db.may_leave left → MayLeaveRun failed s xs ps left
  again_lasts clean change s keeps left may =
      let is_open = open_where_changed (λ from trees. MayLeaveRun failed from xs ps trees) b c xs ps
      q clean change in
      q.lasts clean change s (still a b list why p (q.honest clean) is_open s keeps) left may

  again_later : HasCleanDisk c.db → (left : Trees) → MayLeaveRunOf failed b xs ps left → (s : State)
      → Keeps a s → MayLeaveRun failed s xs ps left
  again_later clean left may s keeps = may.1 s
      (still a b list why p (q.honest clean) may.0 s keeps)

  -- the requests of a list one after the other, up to some place
  pub some_again : HandlesOrLeaves failed a c xs ps list
  some_again = record {
    count = q.count;
    honest = λ clean. p.honest (q.honest clean);
    opens = λ clean is_open. p.opens (q.honest clean) (q.opens clean is_open);
    answered = again_answered;
    shut = λ clean closed. q.shut clean (λ is_open. closed (p.opens (q.honest clean) is_open));
    crash = survives_then a.db b.db c.db (MayLeaveAllOf a list (Err why))
        (MayLeaveRunOf failed b xs ps) (LeavesOf (MayLeaveEither failed xs ps list) a)
        (λ clean left may. (may.0, λ s keeps. inr (met_fault s list why left (may.1 s keeps))))
        (λ clean left may. (
          p.opens (q.honest clean) may.0,
          λ s keeps. inl (again_later clean left may s keeps),
        ))
        p.crash q.crash;
    lasts = λ clean change s keeps left may. inl (again_lasts clean change s keeps left may);
  }

-- the list again, one request after the other, to its end, with no fault
pub all_again : (failed : Type 0) (a b c : Held) (xs : List Request) (why : Refusal)
    (ps : List Answer) → ((s end : State) → IsRun s xs ps end → AreSteps s xs ps end)
    → HandlesTogether a b xs (Err why) → HandlesAll failed b c xs ps
    → HandlesAll failed a c xs ps
all_again failed a b c xs why ps sure p q = record {
  count = q.count;
  honest = λ clean. p.honest (q.honest clean);
  opens = λ clean is_open. p.opens (q.honest clean) (q.opens clean is_open);
  answered = again_answered failed a b c xs why xs ps p q;
  shut = λ clean closed. q.shut clean (λ is_open. closed (p.opens (q.honest clean) is_open));
  crash = survives_then a.db b.db c.db (MayLeaveAllOf a xs (Err why))
      (MayLeaveRunOf failed b xs ps) (MayLeaveRunOf failed a xs ps)
      (λ clean left may. (
        may.0,
        λ s keeps.
            (let done = again_answered failed a b c xs why xs ps p q clean s keeps in
            whole failed s xs ps left (with_answers s xs ps done.0 why left keeps.rests.kept.sound
            (sure s done.0 done.1) (may.1 s keeps))),
      ))
      (λ clean left may. (
        p.opens (q.honest clean) may.0,
        λ s keeps. again_later failed a b c xs why xs ps p q clean left may s keeps,
      ))
      p.crash q.crash;
  lasts = again_lasts failed a b c xs why xs ps p q;
}

-- requests before the list that were answered by steps
pub either_after : (failed : Type 0) (a b c : Held) (xs : List Request) (ps : List Answer)
    (ys : List Request) (qs : List Answer) (list : List Request)
    → ((s end : State) → IsRun s xs ps end → AreSteps s xs ps end)
    → HandlesAll ⊥ a b xs ps → HandlesOrLeaves failed b c ys qs list
    → HandlesOrLeaves failed a c (xs ++ ys) (ps ++ qs) (xs ++ list)
either_after failed a b c xs ps ys qs list sure p q =
    leaving_then (λ s left. MayLeaveRun ⊥ s xs ps left) (MayLeaveEither failed ys qs list)
    (MayLeaveEither failed (xs ++ ys) (ps ++ qs) (xs ++ list)) a b c xs ps ys qs p q
    (λ s left quiet m. inl (still_first ⊥ failed s xs ps ys qs left (λ none. absurd none) quiet m))
    (λ s mid left run may. elim may [
      | inl m ↦ inl (run_after failed s xs ps mid ys qs left run m)
      | inr m ↦ inr (record {
        answers = ps ++ m.answers;
        told = tt;
        end = m.end;
        steps = steps_then s xs ps mid list m.answers m.end (sure s mid run) m.steps;
        db = m.db;
        trees = m.trees;
        kept = m.kept;
      })
    ])
