-- Outcomes of records, one after the other.
use Rattle.std.proofs.Common.{◌≡◌, ◌⊎◌, refl, sym, ap, subst, ◌∙◌, ◌+◌, inl, inr, arith}
use Rattle.std.proofs.Common.{Bool, ℕ, List, [], ◌∷◌, ◌++◌, length, map, rules}
use Rattle.std.proofs.Common.{Some, None, Ok, Err, Result, OnErr, IsTrue, length-append}
use Rattle.std.specs.List.{filter, filter_map}
use Rattle.std.proofs.lemmas.List.{append_assoc, append-nil, map-append}
use Rattle.std.proofs.lemmas.List.Elements.{filter-append, filter_map-append}
use Rattle.ftd_csv.specs.declared.entries.Content.{Content}
use Rattle.ftd_csv.specs.declared.entries.Content.TheVariants as content
use Rattle.ftd_machine.specs.declared.requests.Request.{Request}
use Rattle.ftd_machine.specs.Checks.{Answer}
use Rattle.ftd_machine.specs.Runs.{IsFault}
use Rattle.ftd_desk.specs.States.{CrashKeeps}
use Rattle.ftd_desk.specs.Desks.{Held}
use Rattle.ftd_desk.specs.Words.{Handles, HandlesAll}
use Rattle.ftd_desk.proofs.Running.{all_none, all_one, all_then}
use Rattle.ftd_imports.specs.Outcomes.{Counts, IsNothing, IsSame, IsSummary, Outcome, answer_in}
use Rattle.ftd_imports.specs.Outcomes.{change_in, fault_in, fault_of, note_in, posted}
use Rattle.ftd_imports.specs.Outcomes.{record_in, refusal_in}
use Rattle.ftd_imports.specs.Outcomes.{request_in, skipped, was_already, was_malformed, was_posted}
use Rattle.ftd_imports.specs.Outcomes.{was_refused}
use Rattle.ftd_imports.specs.Imports.{AreOutcomes, Asks, Posts, StopsAt, StopsIn}
use Rattle.ftd_imports.specs.declared.summary.StopCause.{StopCause}
use Rattle.ftd_imports.specs.declared.summary.StopCause.TheVariants as cause
use Rattle.ftd_imports.specs.declared.summary.Summary.{Summary}
use Rattle.ftd_imports.specs.Collections.{Follow}
use Rattle.ftd_imports.specs.declared.collection.Collection.{Collection}

number_then : (test : Outcome → Bool) (xs ys : List Outcome) (p q r : ℕ)
    → q ≡ p + length (filter test xs) → r ≡ q + length (filter test ys)
    → r ≡ p + length (filter test (xs ++ ys))
number_then test xs ys p q r first second =
    let whole = ap length (filter-append test xs ys) ∙ length-append (filter test xs)
    (filter test ys) in
    omega arith

follow_then : {T : Type 0} (p q r : Collection T) (xs ys : List T) → Follow p xs q → Follow q ys r
    → Follow p (xs ++ ys) r
follow_then {T = T} p q r xs ys first second all =
    let later = second all in
    let earlier = first later.0 in (
      earlier.0,
      later.1 ∙ ap (λ z. z ++ ys) earlier.1 ∙ append_assoc p.entries.items xs ys,
    )

follow_none : {T : Type 0} (p q : Collection T) → q ≡ p → Follow p [] q
follow_none {T = T} p q is all = (
  subst (λ (c : Collection T). IsTrue c.are_all) is all,
  ap (λ (c : Collection T). c.entries.items) is ∙ sym (append-nil p.entries.items),
)

pub counts_then : (p q r : Summary) (xs ys : List Outcome) → Counts p xs q → Counts q ys r
    → Counts p (xs ++ ys) r
counts_then p q r xs ys first second = record {
  posted_are = number_then was_posted xs ys p.posted q.posted r.posted first.posted_are
      second.posted_are;
  already_are = number_then was_already xs ys p.already q.already r.already first.already_are
      second.already_are;
  refused_are = number_then was_refused xs ys p.refused q.refused r.refused first.refused_are
      second.refused_are;
  malformed_are = number_then was_malformed xs ys p.malformed q.malformed r.malformed
      first.malformed_are second.malformed_are;
  notes_are =
      second.notes_are ∙ ap (λ z. z ++ filter_map note_in ys) first.notes_are
      ∙ append_assoc p.notes.items (filter_map note_in xs) (filter_map note_in ys)
      ∙ ap (λ z. p.notes.items ++ z) (sym (filter_map-append note_in xs ys));
  refusals_are = subst (λ more. Follow p.refusals more r.refusals)
      (sym (filter_map-append refusal_in xs ys))
      (follow_then p.refusals q.refusals r.refusals (filter_map refusal_in xs)
      (filter_map refusal_in ys) first.refusals_are second.refusals_are);
  changes_are = subst (λ more. Follow p.changes more r.changes)
      (sym (filter_map-append change_in xs ys))
      (follow_then p.changes q.changes r.changes (filter_map change_in xs) (filter_map change_in ys)
      first.changes_are second.changes_are);
}

pub same : (p : Summary) → IsSame p p
same p = record {
  posted_are = omega arith;
  already_are = omega arith;
  refused_are = omega arith;
  malformed_are = omega arith;
  notes_are = sym (append-nil p.notes.items);
  refusals_are = follow_none p.refusals p.refusals refl;
  changes_are = follow_none p.changes p.changes refl;
}

from_nothing : (p q n : ℕ) → p ≡ 0 → q ≡ p + n → q ≡ n
from_nothing p q n none is = omega arith

-- with more room for notes it says the same
pub with_room : (p q : Summary) → q.posted ≡ p.posted → q.already ≡ p.already
    → q.refused ≡ p.refused → q.malformed ≡ p.malformed → q.refusals ≡ p.refusals
    → q.changes ≡ p.changes → q.notes.items ≡ p.notes.items → IsSame p q
with_room p q posted_is already_is refused_is malformed_is refusals_is changes_is notes_is = record {
  posted_are = omega arith;
  already_are = omega arith;
  refused_are = omega arith;
  malformed_are = omega arith;
  notes_are = notes_is ∙ sym (append-nil p.notes.items);
  refusals_are = follow_none p.refusals q.refusals refusals_is;
  changes_are = follow_none p.changes q.changes changes_is;
}

-- counted from nothing it is a summary
pub summary_of : (p q : Summary) (xs : List Outcome) → IsNothing p → Counts p xs q → IsSummary xs q
summary_of p q xs none counts = record {
  posted_are = from_nothing p.posted q.posted (length (filter was_posted xs)) none.posted_are
      counts.posted_are;
  already_are = from_nothing p.already q.already (length (filter was_already xs)) none.already_are
      counts.already_are;
  refused_are = from_nothing p.refused q.refused (length (filter was_refused xs)) none.refused_are
      counts.refused_are;
  malformed_are = from_nothing p.malformed q.malformed (length (filter was_malformed xs))
      none.malformed_are counts.malformed_are;
  notes_are = counts.notes_are ∙ ap (λ z. z ++ filter_map note_in xs) none.notes_are;
  refusals_are = λ all. (let its = counts.refusals_are all in
      its.1 ∙ ap (λ z. z ++ filter_map refusal_in xs) (none.refusals_are its.0));
  changes_are = λ all. (let its = counts.changes_are all in
      its.1 ∙ ap (λ z. z ++ filter_map change_in xs) (none.changes_are its.0));
}

pub are_then : (rs ss : List (ℕ × Content)) (xs ys : List Outcome) → AreOutcomes rs xs
    → AreOutcomes ss ys → AreOutcomes (rs ++ ss) (xs ++ ys)
are_then rs ss xs ys first second = record {
  all = map-append record_in xs ys ∙ ap (λ z. z ++ map record_in ys) first.all
      ∙ ap (λ z. rs ++ z) second.all;
  no_fault = filter_map-append fault_in xs ys ∙ ap (λ z. z ++ filter_map fault_in ys) first.no_fault
      ∙ second.no_fault;
}

-- after records of which no commit failed
pub asks_then : (failed : Type 0) (a b c : Held) (xs ys : List Outcome) → Asks ⊥ a b xs
    → Asks failed b c ys → Asks failed a c (xs ++ ys)
asks_then failed a b c xs ys first second =
    subst (λ rs. HandlesAll failed a c rs (filter_map answer_in (xs ++ ys)))
    (sym (filter_map-append request_in xs ys))
    (subst (λ qs. HandlesAll failed a c (filter_map request_in xs ++ filter_map request_in ys) qs)
    (sym (filter_map-append answer_in xs ys))
    (all_then ⊥ failed a b c (filter_map request_in xs) (filter_map answer_in xs)
    (filter_map request_in ys) (filter_map answer_in ys) (λ none. absurd none) first second))

pub on_err : {A E P : Type 0} (result : Result A E) → P → OnErr result P
on_err (Ok x) p = tt
on_err (Err e) p = p

pub no_fault : (answer : Answer) → fault_of answer ≡ None → IsFault answer → ⊥
no_fault answer none (inl memory) = let e = rw memory at none in absurd (cc)
no_fault answer none (inr store) = let e = rw store at none in absurd (cc)

-- one request that no fault answered: no commit failed
no_commit_failed : (a b : Held) (it : Request) (answer : Answer) → Handles a b it answer
    → fault_of answer ≡ None → OnErr answer (⊥ ⊎ CrashKeeps a.db b.db)
no_commit_failed a b it (Ok reply) handles none = tt
no_commit_failed a b it (Err why) handles none =
    inr (handles.keeps refl (λ is. no_fault (Err why) none (inr is)))

-- ---- posts
pub posts_none : (a : Held) (p : Summary) → Posts a a [] p p
posts_none a p = record {
  outcomes = [];
  are = record { all = refl; no_fault = refl };
  counts = same p;
  asks = all_none ⊥ a;
}

pub posts_then : (a b c : Held) (rs ss : List (ℕ × Content)) (p q r : Summary) → Posts a b rs p q
    → Posts b c ss q r → Posts a c (rs ++ ss) p r
posts_then a b c rs ss p q r first second = record {
  outcomes = first.outcomes ++ second.outcomes;
  are = are_then rs ss first.outcomes second.outcomes first.are second.are;
  counts = counts_then p q r first.outcomes second.outcomes first.counts second.counts;
  asks = asks_then ⊥ a b c first.outcomes second.outcomes first.asks second.asks;
}

pub posts_same : (a b : Held) (rs : List (ℕ × Content)) (p q r : Summary) → IsSame p q
    → Posts a b rs q r → Posts a b rs p r
posts_same a b rs p q r same posts = record {
  outcomes = posts.outcomes;
  are = posts.are;
  counts = counts_then p q r [] posts.outcomes same posts.counts;
  asks = posts.asks;
}

-- an entry that was answered
pub posts_one : (a b : Held) (number : ℕ) (it : Request) (answer : Answer) (p q : Summary)
    → Handles a b it answer → fault_of answer ≡ None
    → Counts p (posted number it answer ∷ []) q
    → Posts a b ((number, content.Entry it) ∷ []) p q
posts_one a b number it answer p q handles none counts = record {
  outcomes = posted number it answer ∷ [];
  are = record { all = refl; no_fault = rw none refl };
  counts = counts;
  asks = all_one ⊥ a b it answer handles (no_commit_failed a b it answer handles none);
}

-- a malformed record
pub skips_one : (a : Held) (number field : ℕ) (p q : Summary)
    → Counts p (skipped number field ∷ []) q
    → Posts a a ((number, content.Malformed field) ∷ []) p q
skips_one a number field p q counts = record {
  outcomes = skipped number field ∷ [];
  are = record { all = refl; no_fault = refl };
  counts = counts;
  asks = all_none ⊥ a;
}

-- ---- stops
pub no_room : (failed : Type 0) (a : Held) (at : ℕ × Content) → StopsAt failed a a at cause.Memory
no_room failed a at = record { last = []; stop = inl (refl, refl); asks = all_none failed a }

pub faulted : (failed : Type 0) (a b : Held) (number : ℕ) (it : Request) (answer : Answer)
    (why : StopCause) → Handles a b it answer
    → OnErr answer (failed ⊎ CrashKeeps a.db b.db) → fault_of answer ≡ Some why
    → StopsAt failed a b (number, content.Entry it) why
faulted failed a b number it answer why handles stops fault = record {
  last = posted number it answer ∷ [];
  stop = inr (posted number it answer, refl, refl, fault);
  asks = all_one failed a b it answer handles stops;
}

pub posts_stop : (failed : Type 0) (a b c : Held) (rs : List (ℕ × Content)) (at : ℕ × Content)
    (others : List (ℕ × Content))
    (all : List (ℕ × Content)) (p q r : Summary) (why : StopCause)
    → all ≡ rs ++ at ∷ others → Posts a b rs p q → StopsAt failed b c at why → IsSame q r
    → StopsIn failed a c all p r why
posts_stop failed a b c rs at others all p q r why split posts stops keeps =
    let counts = subst (λ xs. Counts p xs r) (append-nil posts.outcomes)
    (counts_then p q r posts.outcomes [] posts.counts keeps) in
    let asks = asks_then failed a b c posts.outcomes stops.last posts.asks stops.asks in
    search rules
