-- Requests one after the other.
use Rattle.std.proofs.Common.{◌≡◌, ◌⊎◌, refl, sym, ap, subst, ◌∙◌, inl, inr, arith, IsTrue, List}
use Rattle.std.proofs.Common.{[], ◌∷◌, ◌++◌, Bool, true, false, Ok, Err, OnErr, All, length}
use Rattle.std.proofs.Common.{length-append}
use Rattle.std.specs.Prelude.{⊤}
use Rattle.std.specs.List.{list_any}
use Rattle.std.proofs.lemmas.Bool.{true≢false, cases_Bool, or_cases}
use Rattle.std.proofs.lemmas.List.{append_assoc, append-nil}
use Rattle.std.proofs.lemmas.List.Elements.{All-nil, All-cons, All-head, All-tail, All-append}
use Rattle.std.proofs.lemmas.List.Folds.{list_any-append}
use Rattle.sqlite.specs.State as database
use Rattle.sqlite.specs.State.{HasCleanDisk, Survives}
use Rattle.sqlite.specs.Tree.{Trees}
use Rattle.sqlite.proofs.StateLemmas.{survives_then, survives_weaker}
use Rattle.ftd_sql.specs.States.{CrashKeeps}
use Rattle.ftd_sql.proofs.Controls.{crash_none}
use Rattle.ftd_machine.specs.State.{State}
use Rattle.ftd_machine.specs.Checks.{Answer}
use Rattle.ftd_machine.specs.Laws.{is_change}
use Rattle.ftd_machine.specs.Runs.{IsFault, IsRun}
use Rattle.ftd_machine.specs.declared.replies.Refusal.TheVariants.{Store}
use Rattle.ftd_machine.specs.declared.requests.Request.{Request}
use Rattle.ftd_desk.specs.Desks.{Held, Keeps}
use Rattle.ftd_desk.specs.Words.{MayLeaveRun, Handles, HandlesAll, HandlesLeaving}
use Rattle.ftd_desk.proofs.Handling.{MayLeaveOf, no_change}

-- a run goes on with more requests
pub run_then : (s : State) (xs : List Request) (ps : List Answer) (mid : State) (ys : List Request)
    (qs : List Answer) (end : State) → IsRun s xs ps mid → IsRun mid ys qs end
    → IsRun s (xs ++ ys) (ps ++ qs) end
run_then s [] [] mid ys qs end first second = subst (λ from. IsRun from ys qs end) first second
run_then s [] (p ∷ ps) mid ys qs end first second = absurd first
run_then s (x ∷ xs) [] mid ys qs end first second = absurd first
run_then s (x ∷ xs) (p ∷ ps) mid ys qs end first second =
    (first.0, first.1, run_then first.0 xs ps mid ys qs end first.2 second)

-- ---- faults

-- faults are a run that changes nothing
pub faults_run : (s : State) (xs : List Request) (ps : List Answer) → length ps ≡ length xs
    → All IsFault ps → IsRun s xs ps s
faults_run s [] [] count faults = refl
faults_run s [] (p ∷ ps) count faults = absurd (omega arith)
faults_run s (x ∷ xs) [] count faults = absurd (omega arith)
faults_run s (x ∷ xs) (p ∷ ps) count faults = (
  s,
  inr (All-head IsFault p ps faults, refl),
  faults_run s xs ps (omega arith) (All-tail IsFault p ps faults),
)

-- none of them tells of a change
faults_quiet : (ps : List Answer) → All IsFault ps → list_any is_change ps ≡ false
faults_quiet [] faults = refl
faults_quiet (p ∷ ps) faults =
    rw (no_change p (All-head IsFault p ps faults)) (faults_quiet ps (All-tail IsFault p ps faults))

-- the answer is Store
abbrev is_store : Answer → Bool
is_store (Ok reply) = false
is_store (Err Store) = true
is_store (Err refusal) = false

store_is : (answer : Answer) → is_store answer ≡ true → answer ≡ Err Store
store_is (Ok reply) is = absurd (true≢false (sym is))
store_is (Err Store) is = refl
store_is (Err refusal) is = absurd (true≢false (sym is))

no_store : (answer : Answer) → is_store answer ≡ false → answer ≡ Err Store → ⊥
no_store answer none store = true≢false (rw store at none)

-- ---- what a crash may leave

-- what a crash may leave, in each state that the desk stood for
abbrev pub LeavesOf : (State → Trees → Type 0) → Held → Trees → Type 0
LeavesOf Leaves old left = IsTrue old.db.is_open × ((s : State) → Keeps old s → Leaves s left)

-- what a crash may leave of requests one after the other
abbrev pub MayLeaveRunOf : Type 0 → Held → List Request → List Answer → Trees → Type 0
MayLeaveRunOf failed old requests answers left =
    LeavesOf (λ s trees. MayLeaveRun failed s requests answers trees) old left

-- it leaves no more than this
pub survives_as : (old new : database.State) (P R : Trees → Type 0) → Survives old new P
    → (HasCleanDisk new → (left : Trees) → new.may_leave left → old.may_leave left ⊎ R left)
    → Survives old new R
survives_as old new P R s leaves = record {
  clean = s.clean;
  shield = s.shield;
  counts = s.counts;
  limit = s.limit;
  closes = s.closes;
  crash = leaves;
}

-- the tables of the state after all of them
pub run_whole : (failed : Type 0) (s end : State) (requests : List Request) (answers : List Answer)
    (now : Held) (left : Trees) → IsRun s requests answers end → Keeps now end
    → left ≡ now.db.now.trees → MayLeaveRun failed s requests answers left
run_whole failed s end requests answers now left run keeps is = record {
  asked = requests;
  others = [];
  first = sym (append-nil requests);
  given = answers;
  later = [];
  told = sym (append-nil answers);
  quiet = refl;
  between = end;
  run = run;
  end = end;
  ends = inl refl;
  db = now.db.now;
  trees = is;
  kept = keeps.rests.kept;
}

-- what a crash may leave of later requests, after a run of the first ones
pub run_after : (failed : Type 0) (s : State) (xs : List Request) (ps : List Answer) (mid : State)
    (ys : List Request) (qs : List Answer) (left : Trees) → IsRun s xs ps mid
    → MayLeaveRun failed mid ys qs left → MayLeaveRun failed s (xs ++ ys) (ps ++ qs) left
run_after failed s xs ps mid ys qs left first m = record {
  asked = xs ++ m.asked;
  others = m.others;
  first = ap (λ rs. xs ++ rs) m.first ∙ sym (append_assoc xs m.asked m.others);
  given = ps ++ m.given;
  later = m.later;
  told = ap (λ rs. ps ++ rs) m.told ∙ sym (append_assoc ps m.given m.later);
  quiet = m.quiet;
  between = m.between;
  run = run_then s xs ps mid m.asked m.given m.between first m.run;
  end = m.end;
  ends = m.ends;
  db = m.db;
  trees = m.trees;
  kept = m.kept;
}

-- what a crash may leave of requests, it may leave after more that change nothing
pub still_first : (failed later : Type 0) (s : State) (xs : List Request) (ps : List Answer)
    (ys : List Request) (qs : List Answer) (left : Trees) → (failed → later)
    → list_any is_change qs ≡ false → MayLeaveRun failed s xs ps left
    → MayLeaveRun later s (xs ++ ys) (ps ++ qs) left
still_first failed later s xs ps ys qs left stays quiet m = record {
  asked = m.asked;
  others = m.others ++ ys;
  first = ap (λ rs. rs ++ ys) m.first ∙ append_assoc m.asked m.others ys;
  given = m.given;
  later = m.later ++ qs;
  told = ap (λ rs. rs ++ qs) m.told ∙ append_assoc m.given m.later qs;
  quiet = list_any-append is_change m.later qs ∙ (rw (m.quiet, quiet) refl);
  between = m.between;
  run = m.run;
  end = m.end;
  ends = elim m.ends [
    | inl same ↦ inl same
    | inr fails ↦ inr (
      stays fails.0,
      record {
        request = fails.1.request;
        others = fails.1.others ++ ys;
        first = ap (λ rs. rs ++ ys) fails.1.first;
        later = fails.1.later ++ qs;
        told = ap (λ rs. rs ++ qs) fails.1.told;
        answer = fails.1.answer;
        step = fails.1.step;
      },
    )
  ];
  db = m.db;
  trees = m.trees;
  kept = m.kept;
}

-- ---- no request, and one

-- no request changes nothing
pub all_none : (failed : Type 0) (old : Held) → HandlesAll failed old old [] []
all_none failed old = record {
  count = refl;
  honest = λ clean. clean;
  opens = λ clean is_open. is_open;
  answered = λ clean s keeps. (s, refl, λ is_open. keeps);
  shut = λ clean closed. All-nil IsFault;
  crash = survives_weaker old.db old.db (λ _. ⊥) (MayLeaveRunOf failed old [] [])
      (λ clean db none. absurd none) (crash_none old.db);
  lasts = λ clean change. absurd (true≢false (sym change));
}

module _ (failed : Type 0) (a b : Held) (request : Request) (answer : Answer)
    (h : Handles a b request answer) (stops : OnErr answer (failed ⊎ CrashKeeps a.db b.db)) where
  abbrev MayLeaveOne : Trees → Type 0
  MayLeaveOne = MayLeaveRunOf failed a (request ∷ []) (answer ∷ [])

  -- the request was done, or its run posted or voided
  one_done : is_change answer ≡ true → HasCleanDisk b.db → (s : State) → Keeps a s → (left : Trees)
      → b.db.may_leave left → MayLeaveRun failed s (request ∷ []) (answer ∷ []) left
  one_done change clean s keeps left may =
      let done = h.answered clean s keeps in
      let lasts = h.lasts clean change in
      run_whole failed s done.0 (request ∷ []) (answer ∷ []) b left (done.0, done.1, refl)
      (done.2 lasts.0) (lasts.1 left may)

  -- a crash finds what it would have found
  one_kept : CrashKeeps a.db b.db → Survives a.db b.db MayLeaveOne
  one_kept crash = survives_weaker a.db b.db (λ _. ⊥) MayLeaveOne (λ clean db none. absurd none)
      crash

  -- its commit failed
  one_failed : answer ≡ Err Store → failed → Survives a.db b.db MayLeaveOne
  one_failed store met =
      survives_weaker a.db b.db (MayLeaveOf a request) MayLeaveOne
      (λ clean left may. (
        may.0,
        λ s keeps.
            (let m = may.1 s keeps in
            record {
              asked = [];
              others = request ∷ [];
              first = refl;
              given = [];
              later = answer ∷ [];
              told = refl;
              quiet = rw store refl;
              between = s;
              run = refl;
              end = m.next;
              ends = inr (
                met,
                record {
                  request = request;
                  others = [];
                  first = refl;
                  later = [];
                  told = ap (λ it. it ∷ []) store;
                  answer = m.answer;
                  step = m.step;
                },
              );
              db = m.db;
              trees = m.trees;
              kept = m.kept;
            }),
      ))
      h.crash

  one_crash : Survives a.db b.db MayLeaveOne
  one_crash = elim (cases_Bool (is_change answer)) [
    | inl change ↦ survives_as a.db b.db (MayLeaveOf a request) MayLeaveOne h.crash
        (λ clean left may. inr (
          h.opens clean (h.lasts clean change).0,
          λ s keeps. one_done change clean s keeps left may,
        ))
    | inr still ↦ elim (cases_Bool (is_store answer)) [
      | inl is ↦
          let store = store_is answer is in
          let met : failed ⊎ CrashKeeps a.db b.db =
          subst (λ it. OnErr it (failed ⊎ CrashKeeps a.db b.db)) store stops in
          elim met [ inl fails ↦ one_failed store fails | inr crash ↦ one_kept crash ]
      | inr other ↦ one_kept (h.keeps still (no_store answer other))
    ]
  ]

  -- one request
  pub all_one : HandlesAll failed a b (request ∷ []) (answer ∷ [])
  all_one = record {
    count = refl;
    honest = h.honest;
    opens = h.opens;
    answered = λ clean s keeps.
        let done = h.answered clean s keeps in (done.0, (done.0, done.1, refl), done.2);
    shut = λ clean closed. All-cons IsFault answer [] (h.shut clean closed) (All-nil IsFault);
    crash = one_crash;
    lasts = λ clean changed. elim (or_cases (is_change answer) false changed) [
      | inl change ↦ one_done change clean
      | inr none ↦ absurd (true≢false (sym none))
    ];
  }

-- ---- some requests, and then others

-- where something was changed, the connection was open
pub open_where_changed : (Leaves : State → Trees → Type 0) (a b : Held) (xs : List Request)
    (ps : List Answer) → HandlesLeaving Leaves a b xs ps → HasCleanDisk b.db
    → list_any is_change ps ≡ true → IsTrue a.db.is_open
open_where_changed Leaves a b xs ps h clean change = elim (cases_Bool a.db.is_open) [
  | inl is_open ↦ is_open
  | inr closed ↦
      let faults = h.shut clean (λ is_open. true≢false (sym is_open ∙ closed)) in
      absurd (true≢false (sym change ∙ faults_quiet ps faults))
]

module _ (First Later Both : State → Trees → Type 0) (a b c : Held) (xs : List Request)
    (ps : List Answer) (ys : List Request) (qs : List Answer) (p : HandlesLeaving First a b xs ps)
    (q : HandlesLeaving Later b c ys qs)
    (still : (s : State) (left : Trees) → list_any is_change qs ≡ false → First s left
    → Both s left)
    (after : (s mid : State) (left : Trees) → IsRun s xs ps mid → Later mid left
    → Both s left) where
  -- what was answered
  then_answered : HasCleanDisk c.db → (s : State) → Keeps a s
      → (end : State) × IsRun s (xs ++ ys) (ps ++ qs) end × (IsTrue c.db.is_open → Keeps c end)
  then_answered clean s keeps =
      let first = p.answered (q.honest clean) s keeps in
      elim (cases_Bool b.db.is_open) [
        | inl is_open ↦ (let second = q.answered clean first.0 (first.2 is_open) in (
          second.0,
          run_then s xs ps first.0 ys qs second.0 first.1 second.1,
          second.2,
        ))
        | inr closed ↦ (
          first.0,
          run_then s xs ps first.0 ys qs first.0 first.1
              (faults_run first.0 ys qs q.count
              (q.shut clean (λ is_open. true≢false (sym is_open ∙ closed)))),
          λ is_open. absurd (true≢false (sym (q.opens clean is_open) ∙ closed)),
        )
      ]

  -- what a crash may leave of the later ones
  then_later : HasCleanDisk c.db → IsTrue b.db.is_open → (left : Trees)
      → ((s : State) → Keeps b s → Later s left) → (s : State) → Keeps a s → Both s left
  then_later clean is_open left may s keeps =
      let first = p.answered (q.honest clean) s keeps in
      after s first.0 left first.1 (may first.0 (first.2 is_open))

  -- the later ones changed something
  then_changed : HasCleanDisk c.db → list_any is_change qs ≡ true → (left : Trees)
      → c.db.may_leave left → (s : State) → Keeps a s → Both s left
  then_changed clean change left may =
      then_later clean (open_where_changed Later b c ys qs q clean change) left
      (λ s keeps. q.lasts clean change s keeps left may)

  then_leaves : HasCleanDisk c.db → (left : Trees) → c.db.may_leave left
      → a.db.may_leave left ⊎ LeavesOf Both a left
  then_leaves clean left may = elim (cases_Bool (list_any is_change qs)) [
    | inl change ↦ inr (
      p.opens (q.honest clean) (open_where_changed Later b c ys qs q clean change),
      then_changed clean change left may,
    )
    | inr quiet ↦ elim (q.crash.crash clean left may) [
      | inr made ↦ inr (
        p.opens (q.honest clean) made.0,
        then_later clean made.0 left made.1,
      )
      | inl was ↦ elim (p.crash.crash (q.honest clean) left was) [
        | inl first ↦ inl first
        | inr made ↦ inr (made.0, λ s keeps. still s left quiet (made.1 s keeps))
      ]
    ]
  ]

  then_lasts : HasCleanDisk c.db → list_any is_change (ps ++ qs) ≡ true → (s : State) → Keeps a s
      → (left : Trees) → c.db.may_leave left → Both s left
  then_lasts clean changed s keeps left may = elim (cases_Bool (list_any is_change qs)) [
    | inl change ↦ then_changed clean change left may s keeps
    | inr quiet ↦ elim (or_cases (list_any is_change ps) (list_any is_change qs)
        (sym (list_any-append is_change ps qs) ∙ changed)) [
          | inr none ↦ absurd (true≢false (sym none ∙ quiet))
          | inl change ↦ elim (q.crash.crash clean left may) [
            | inr made ↦ then_later clean made.0 left made.1 s keeps
            | inl was ↦ still s left quiet (p.lasts (q.honest clean) change s keeps left was)
          ]
        ]
  ]

  pub leaving_then : HandlesLeaving Both a c (xs ++ ys) (ps ++ qs)
  leaving_then = record {
    count = let first = length-append ps qs in let second = length-append xs ys in
        let one = p.count in let other = q.count in omega arith;
    honest = λ clean. p.honest (q.honest clean);
    opens = λ clean is_open. p.opens (q.honest clean) (q.opens clean is_open);
    answered = then_answered;
    shut = λ clean closed. All-append IsFault ps qs (p.shut (q.honest clean) closed)
        (q.shut clean (λ is_open. closed (p.opens (q.honest clean) is_open)));
    crash = survives_as a.db c.db (λ _. ⊤) (LeavesOf Both a)
        (survives_then a.db b.db c.db (LeavesOf First a) (LeavesOf Later b) (λ _. ⊤)
        (λ clean left may. tt) (λ clean left may. tt) p.crash q.crash) then_leaves;
    lasts = then_lasts;
  }

pub all_then : (failed later : Type 0) (a b c : Held) (xs : List Request) (ps : List Answer)
    (ys : List Request) (qs : List Answer) → (failed → later) → HandlesAll failed a b xs ps
    → HandlesAll later b c ys qs → HandlesAll later a c (xs ++ ys) (ps ++ qs)
all_then failed later a b c xs ps ys qs stays p q =
    leaving_then (λ s left. MayLeaveRun failed s xs ps left)
    (λ s left. MayLeaveRun later s ys qs left)
    (λ s left. MayLeaveRun later s (xs ++ ys) (ps ++ qs) left) a b c xs ps ys qs p q
    (λ s left quiet m. still_first failed later s xs ps ys qs left stays quiet m)
    (λ s mid left run m. run_after later s xs ps mid ys qs left run m)
