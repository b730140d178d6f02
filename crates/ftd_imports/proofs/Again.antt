-- Records posted in lists.
use Rattle.std.proofs.Common.{◌≡◌, ◌⊎◌, refl, sym, ap, subst, ◌∙◌, ◌<◌, ◌≤◌, inl, inr, arith}
use Rattle.std.proofs.Common.{rules, false, ℕ, List, [], ◌∷◌, ◌++◌, length, map, Option}
use Rattle.std.proofs.Common.{Some, None, Result, Ok, Err, length-append}
use Rattle.std.specs.List.{cons_option, filter_map, list_any}
use Rattle.std.specs.Prelude.{MatchResult}
use Rattle.std.proofs.lemmas.List.{append_assoc, append-nil}
use Rattle.std.proofs.lemmas.List.Elements.{filter_map-append}
use Rattle.std.proofs.lemmas.Bool.{or_parts}
use Rattle.sqlite.specs.State.{Survives}
use Rattle.ftd_csv.specs.declared.entries.Content.{Content}
use Rattle.ftd_machine.specs.State.{State}
use Rattle.ftd_machine.specs.Checks.{Answer}
use Rattle.ftd_machine.specs.Runs.{IsRun}
use Rattle.ftd_machine.specs.declared.replies.Refusal.{Refusal}
use Rattle.ftd_machine.specs.declared.replies.Refusal.TheVariants as refusal
use Rattle.ftd_machine.specs.declared.requests.Request.{Request}
use Rattle.ftd_desk.specs.Desks.{Held}
use Rattle.ftd_desk.specs.Trials.{Tries}
use Rattle.ftd_desk.specs.Words.{AreAnswers, AreSteps, HandlesAll, HandlesTogether, is_fault}
use Rattle.ftd_desk.proofs.Running.{all_none}
use Rattle.ftd_imports.specs.Outcomes.{Counts, CountsAnswers, IsNothing, IsSame, IsSummary, Outcome}
use Rattle.ftd_imports.specs.Outcomes.{answer_in, fault_in, fault_of, posted}
use Rattle.ftd_csv.specs.Lists.{post_in}
use Rattle.ftd_imports.specs.Outcomes.{record_in, request_in, skipped}
use Rattle.ftd_csv.specs.Lists.{posts_of}
use Rattle.ftd_imports.specs.Imports.{AreOutcomes, Asks, HandlesOrLeaves, Posts, PostsNone, StopsIn}
use Rattle.ftd_imports.specs.Imports.{StopsWithin, AsksAgain, most_together}
use Rattle.ftd_imports.specs.Trials.{WouldPost}
use Rattle.ftd_imports.specs.declared.summary.StopCause.{StopCause}
use Rattle.ftd_imports.specs.declared.summary.StopCause.TheVariants as cause
use Rattle.ftd_imports.specs.declared.summary.Summary.{Summary}
use Rattle.ftd_imports.proofs.Together.{all_again, all_together, either_after, none_together}
use Rattle.ftd_imports.proofs.Together.{some_again}
use Rattle.ftd_imports.proofs.Outcomes.{are_then, asks_then, counts_then, no_fault, summary_of}

-- the posts asked for are those of the records
requests_are : (xs : List Outcome) → filter_map request_in xs ≡ posts_of (map record_in xs)
requests_are [] = refl
requests_are (posted number it answer ∷ xs) = ap (λ (z : List Request). it ∷ z)
    (requests_are xs)
requests_are (skipped number field ∷ xs) = requests_are xs

pub requests_of_records : (rs : List (ℕ × Content)) (xs : List Outcome) → map record_in xs ≡ rs
    → filter_map request_in xs ≡ posts_of rs
requests_of_records rs xs are = requests_are xs ∙ ap posts_of are

-- an answer that is no fault
fault_none : (answer : Answer) → is_fault answer ≡ false → fault_of answer ≡ None
fault_none (Ok reply) sure = refl
fault_none (Err refusal.Memory) sure = absurd (cc)
fault_none (Err refusal.Store) sure = absurd (cc)
fault_none (Err why) sure = search rules

cons_none : {X : Type 0} (o : Option X) (xs : List X) → cons_option o xs ≡ [] → (o ≡ None)
    × (xs ≡ [])
cons_none None xs e = (refl, e)
cons_none (Some x) xs e = absurd (cc)

pub none_faulty : (xs : List Outcome) → list_any is_fault (filter_map answer_in xs) ≡ false
    → filter_map fault_in xs ≡ []
none_faulty [] e = refl
none_faulty (posted number it answer ∷ xs) e =
    let both = or_parts (is_fault answer) (list_any is_fault (filter_map answer_in xs)) e in
    rw (fault_none answer both.0) (none_faulty xs both.1)
none_faulty (skipped number field ∷ xs) e = none_faulty xs e

-- a run with no fault is one of steps
steps_of_run : (xs : List Outcome) → filter_map fault_in xs ≡ [] → (s end : State)
    → IsRun s (filter_map request_in xs) (filter_map answer_in xs) end
    → AreSteps s (filter_map request_in xs) (filter_map answer_in xs) end
steps_of_run [] none s end run = run
steps_of_run (posted number it answer ∷ xs) none s end goes =
    let both = cons_none (fault_of answer) (filter_map fault_in xs) none in
    elim goes.1 [
      | inl step ↦ (goes.0, step, steps_of_run xs both.1 goes.0 end goes.2)
      | inr fault ↦ absurd (no_fault answer both.0 fault.0)
    ]
steps_of_run (skipped number field ∷ xs) none s end run = steps_of_run xs none s end run

-- ---- a list of records
module _ (a b : Held) (rs : List (ℕ × Content)) (requests : List Request)
    (answers : List Answer) (p q r : Summary) (is : requests ≡ posts_of rs)
    (told : AreAnswers requests answers) (same : IsSame p q)
    (counted : CountsAnswers q rs answers r) where
  answered : AreOutcomes rs counted.outcomes
  answered = record {
    all = counted.all;
    no_fault = none_faulty counted.outcomes
        (subst (λ (said : List Answer). list_any is_fault said ≡ false) (sym counted.answered)
        told.no_fault);
  }

  -- what holds of its posts and these answers holds of what was asked and answered
  of_outcomes : (P : List Request → List Answer → Type 0) → P requests answers
      → P (filter_map request_in counted.outcomes) (filter_map answer_in counted.outcomes)
  of_outcomes P holds =
      subst (λ (xs : List Request). P xs (filter_map answer_in counted.outcomes))
      (is ∙ sym (requests_of_records rs counted.outcomes counted.all))
      (subst (λ (said : List Answer). P requests said) (sym counted.answered) holds)

  -- its posts were answered together
  pub posts_together : HandlesTogether a b requests (Ok answers) → Posts a b rs p r
  posts_together handles = record {
    outcomes = counted.outcomes;
    are = answered;
    counts = counts_then p q r [] counted.outcomes same counted.counts;
    asks = of_outcomes (HandlesAll ⊥ a b) (all_together ⊥ a b requests answers told.count handles);
  }

  -- its posts would be answered so
  pub tried_together : Tries a b requests (Ok answers) → WouldPost a b rs p r
  tried_together tries = record {
    outcomes = counted.outcomes;
    are = answered;
    counts = counts_then p q r [] counted.outcomes same counted.counts;
    would = λ clean s keeps.
        let done = tries.answered clean s keeps in
        (done.0, of_outcomes (λ xs said. AreSteps s xs said done.0) done.1);
  }

-- none was posted, and then all, one after the other
pub posts_again : (failed : Type 0) (a b c : Held) (rs : List (ℕ × Content)) (p q r : Summary)
    → PostsNone failed a b (posts_of rs) → IsSame p q → Posts b c rs q r → Posts a c rs p r
posts_again failed a b c rs p q r none same posts = record {
  outcomes = posts.outcomes;
  are = posts.are;
  counts = counts_then p q r [] posts.outcomes same posts.counts;
  asks = elim none [
    | inl asks ↦ asks_then ⊥ a b c [] posts.outcomes asks posts.asks
    | inr met ↦
        let requests = requests_of_records rs posts.outcomes posts.are.all in
        let answers = filter_map answer_in posts.outcomes in
        let sure = subst (λ (xs : List Request). (s end : State) → IsRun s xs answers end
        → AreSteps s xs answers end) requests
        (λ s end run. steps_of_run posts.outcomes posts.are.no_fault s end run) in
        subst (λ (xs : List Request). HandlesAll ⊥ a c xs answers) (sym requests)
        (all_again ⊥ a b c (posts_of rs) met.1.0 answers sure met.1.1
        (subst (λ (xs : List Request). HandlesAll ⊥ b c xs answers) requests posts.asks))
  ];
}

shorter : (rs passed : List (ℕ × Content)) (at : ℕ × Content) (others : List (ℕ × Content))
    → rs ≡ passed ++ at ∷ others → length passed < length rs
shorter rs passed at others split = let whole = ap length split
    ∙ length-append passed (at ∷ others) in omega arith

-- none was posted, and then some, one after the other
pub stops_again : (failed later : Type 0) (a b c : Held) (rs : List (ℕ × Content))
    (p q r : Summary)
    (why : StopCause) → length rs ≤ most_together → (failed → later)
    → PostsNone failed a b (posts_of rs) → IsSame p q → StopsIn later b c rs q r why
    → StopsWithin later a c rs (λ outcomes. Counts p outcomes r) why
stops_again failed later a b c rs p q r why short stays none same stops =
    let outcomes = stops.outcomes ++ stops.last in
    let told = counts_then p q r [] stops.outcomes same stops.counts in
    let asks : Asks later a c outcomes
    ⊎ (later × AsksAgain later a c rs stops.passed outcomes) = elim none [
      | inl asks ↦ inl (asks_then later a b c [] outcomes asks stops.asks)
      | inr met ↦ inr (
        stays met.0,
        record {
          before = [];
          list = rs;
          others = [];
          split = sym (append-nil rs);
          short = short;
          begins = omega arith;
          ends = let less = shorter rs stops.passed stops.at stops.others stops.split in
              omega arith;
          asks = some_again later a b c (posts_of rs) met.1.0 (filter_map request_in outcomes)
              (filter_map answer_in outcomes) met.1.1 stops.asks;
        },
      )
    ] in
    search rules

-- a fault: none of a list was posted
pub none_posted : (failed : Type 0) (a b : Held) (posts requests : List Request) (why : Refusal)
    → requests ≡ posts → HandlesTogether a b requests (Err why) → failed ⊎ Survives a.db b.db
    (λ _. ⊥) → PostsNone failed a b posts
none_posted failed a b posts requests why is h keeps = elim keeps [
  | inl met ↦ inr (met, (why, subst (λ (rs : List Request). HandlesTogether a b rs (Err why)) is h))
  | inr crash ↦ inl (none_together ⊥ a b requests why h crash)
]

-- whatever became of its records then
pub list_again : {A : Type 0} (failed later : Type 0) (a b c : Held) (rs : List (ℕ × Content))
    (p q r : Summary) (result : Result A StopCause) → length rs ≤ most_together → (failed → later)
    → PostsNone failed a b (posts_of rs) → IsSame p q
    → MatchResult result (λ _. Posts b c rs q r) (λ why. StopsIn later b c rs q r why)
    → MatchResult result (λ _. Posts a c rs p r)
    (λ why. StopsWithin later a c rs (λ outcomes. Counts p outcomes r) why)
list_again failed later a b c rs p q r (Ok x) short stays none same posts =
    posts_again failed a b c rs p q r none same posts
list_again failed later a b c rs p q r (Err why) short stays none same stops =
    stops_again failed later a b c rs p q r why short stays none same stops

-- ---- lists of records
regroup : (pre passed : List (ℕ × Content)) (at : ℕ × Content)
    (others more : List (ℕ × Content))
    → pre ++ ((passed ++ at ∷ others) ++ more) ≡ (pre ++ passed) ++ at ∷ (others ++ more)
regroup pre passed at others more = simp append_assoc

regroup_list : (pre before list others more : List (ℕ × Content))
    → pre ++ (((before ++ list) ++ others) ++ more) ≡ ((pre ++ before) ++ list) ++ (others ++ more)
regroup_list pre before list others more = simp append_assoc

-- the outcomes of the first records, before those of a list whose commit failed
either_then : (failed : Type 0) (a b c : Held) (rs list : List (ℕ × Content))
    (xs ys : List Outcome)
    → AreOutcomes rs xs → Asks ⊥ a b xs
    → HandlesOrLeaves failed b c (filter_map request_in ys) (filter_map answer_in ys)
    (posts_of list)
    → HandlesOrLeaves failed a c (filter_map request_in (xs ++ ys))
    (filter_map answer_in (xs ++ ys)) (posts_of (rs ++ list))
either_then failed a b c rs list xs ys are first later =
    subst (λ (qs : List Request). HandlesOrLeaves failed a c qs (filter_map answer_in (xs ++ ys))
    (posts_of (rs ++ list))) (sym (filter_map-append request_in xs ys))
    (subst (λ (ps : List Answer). HandlesOrLeaves failed a c
    (filter_map request_in xs ++ filter_map request_in ys) ps (posts_of (rs ++ list)))
    (sym (filter_map-append answer_in xs ys))
    (subst (λ (all : List Request). HandlesOrLeaves failed a c
    (filter_map request_in xs ++ filter_map request_in ys)
    (filter_map answer_in xs ++ filter_map answer_in ys) all)
    (ap (λ (z : List Request). z ++ posts_of list) (requests_of_records rs xs are.all)
    ∙ sym (filter_map-append post_in rs list))
    (either_after failed a b c (filter_map request_in xs) (filter_map answer_in xs)
    (filter_map request_in ys) (filter_map answer_in ys) (posts_of list)
    (λ s end run. steps_of_run xs are.no_fault s end run) first later)))

-- some lists were posted, and the import stopped in the next
pub stops_later : (failed : Type 0) (a b c : Held) (pre list more all : List (ℕ × Content))
    (p q r : Summary) (why : StopCause) → all ≡ pre ++ (list ++ more) → Posts a b pre p q
    → StopsWithin failed b c list (λ outcomes. Counts q outcomes r) why
    → StopsWithin failed a c all (λ outcomes. Counts p outcomes r) why
stops_later failed a b c pre list more all p q r why split posts stops = record {
  passed = pre ++ stops.passed;
  at = stops.at;
  others = stops.others ++ more;
  split = split ∙ ap (λ (z : List (ℕ × Content)). pre ++ (z ++ more)) stops.split
      ∙ regroup pre stops.passed stops.at stops.others more;
  outcomes = posts.outcomes ++ stops.outcomes;
  are = are_then pre stops.passed posts.outcomes stops.outcomes posts.are stops.are;
  told = counts_then p q r posts.outcomes stops.outcomes posts.counts stops.told;
  last = stops.last;
  stop = stops.stop;
  asks = elim stops.asks [
    | inl asks ↦ inl (subst (λ (xs : List Outcome). Asks failed a c xs) (sym together)
        (asks_then failed a b c posts.outcomes (stops.outcomes ++ stops.last) posts.asks asks))
    | inr met ↦
        let again = met.1 in
        inr (
          met.0,
          record {
            before = pre ++ again.before;
            list = again.list;
            others = again.others ++ more;
            split = split ∙ ap (λ (z : List (ℕ × Content)). pre ++ (z ++ more)) again.split
                ∙ regroup_list pre again.before again.list again.others more;
            short = again.short;
            begins = let l = length-append pre again.before in
                let m = length-append pre stops.passed in let n = again.begins in omega arith;
            ends = let l = length-append pre again.before in
                let m = length-append pre stops.passed in let n = again.ends in omega arith;
            asks =
                subst (λ (xs : List Outcome). HandlesOrLeaves failed a c
                (filter_map request_in xs) (filter_map answer_in xs)
                (posts_of ((pre ++ again.before) ++ again.list)))
                (sym together)
                (subst (λ (rs : List (ℕ × Content)). HandlesOrLeaves failed a c
                (filter_map request_in (posts.outcomes ++ (stops.outcomes ++ stops.last)))
                (filter_map answer_in (posts.outcomes ++ (stops.outcomes ++ stops.last)))
                (posts_of rs)) (sym (append_assoc pre again.before again.list))
                (either_then failed a b c pre (again.before ++ again.list) posts.outcomes
                (stops.outcomes ++ stops.last) posts.are posts.asks again.asks));
          },
        )
  ];
}
  where
    together : (posts.outcomes ++ stops.outcomes) ++ stops.last ≡ posts.outcomes
        ++ (stops.outcomes ++ stops.last)
    together = append_assoc posts.outcomes stops.outcomes stops.last

-- some lists were posted, and there was no memory to read the next
pub stops_unread : (failed : Type 0) (a b : Held) (pre left all : List (ℕ × Content))
    (p q : Summary)
    → all ≡ pre ++ left → 0 < length left → Posts a b pre p q
    → StopsWithin failed a b all (λ outcomes. Counts p outcomes q) cause.Memory
stops_unread failed a b pre [] all p q split some posts = absurd (omega arith)
stops_unread failed a b pre (at ∷ others) all p q split some posts = record {
  passed = pre;
  at = at;
  others = others;
  split = split;
  outcomes = posts.outcomes;
  are = posts.are;
  told = posts.counts;
  last = [];
  stop = inl (refl, refl);
  asks = inl (asks_then failed a b b posts.outcomes [] posts.asks (all_none failed b));
}

-- ---- the whole text
pub stops_told : (failed : Type 0) (a b : Held) (rs : List (ℕ × Content)) (p q : Summary)
    (why : StopCause) → IsNothing p
    → StopsWithin failed a b rs (λ outcomes. Counts p outcomes q) why
    → StopsWithin failed a b rs (λ outcomes. IsSummary outcomes q) why
stops_told failed a b rs p q why none stops =
    let told = summary_of p q stops.outcomes none stops.told in search rules
