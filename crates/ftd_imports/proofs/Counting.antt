-- Records that are counted with the answers to their posts.
use Rattle.std.proofs.Common.{◌≡◌, refl, sym, ap, subst, ◌∙◌, ◌+◌, ◌<◌, ◌≤◌, suc, add-one, ℕ, List}
use Rattle.std.proofs.Common.{[], ◌∷◌, ◌++◌, length, map, take, drop, get_or, drop-cons, Some, None}
use Rattle.std.proofs.Common.{arith}
use Rattle.std.specs.List.{filter, filter_map}
use Rattle.std.proofs.lemmas.List.{append_assoc, append-nil, map-append}
use Rattle.std.proofs.lemmas.List.Elements.{filter_map-append}
use Rattle.ftd_csv.specs.declared.entries.Content.{Content}
use Rattle.ftd_csv.specs.declared.entries.Content.TheVariants as content
use Rattle.ftd_machine.specs.declared.requests.Request.{Request}
use Rattle.ftd_machine.specs.Checks.{Answer}
use Rattle.ftd_csv.specs.Lists.{has_post}
use Rattle.ftd_imports.specs.Outcomes.{Counts, Outcome, answer_in, posted, record_in, skipped}
use Rattle.ftd_csv.specs.declared.lists.Place.{Place}
use Rattle.ftd_imports.specs.declared.summary.Summary.{Summary}
use Rattle.ftd_csv.proofs.RecordLists.{IsNext, is_malformed, is_entry}
use Rattle.ftd_imports.proofs.Outcomes.{counts_then}

-- some records were counted, and these answers are left
pub record CountsSome (before : Summary) (passed : List (ℕ × Content))
    (answers left : List Answer)
    (after : Summary) : Type 0 where
  pub outcomes : List Outcome
  pub all : map record_in outcomes ≡ passed
  pub answered : filter_map answer_in outcomes ++ left ≡ answers
  pub counts : Counts before outcomes after

pub some_skipped : (p q r : Summary) (rs : List (ℕ × Content)) (answers left : List Answer)
    (number field : ℕ) → CountsSome p rs answers left q → Counts q (skipped number field ∷ []) r
    → CountsSome p (rs ++ (number, content.Malformed field) ∷ []) answers left r
some_skipped p q r rs answers left number field some counts = record {
  outcomes = some.outcomes ++ skipped number field ∷ [];
  all = map-append record_in some.outcomes (skipped number field ∷ [])
      ∙ ap (λ (z : List (ℕ × Content)). z ++ (number, content.Malformed field) ∷ []) some.all;
  answered = ap (λ (z : List Answer). z ++ left) (filter_map-append answer_in some.outcomes
      (skipped number field ∷ []) ∙ append-nil (filter_map answer_in some.outcomes))
      ∙ some.answered;
  counts = counts_then p q r some.outcomes (skipped number field ∷ []) some.counts counts;
}

pub some_posted : (p q r : Summary) (rs : List (ℕ × Content)) (answers left later : List Answer)
    (number : ℕ) (it : Request) (answer : Answer) → CountsSome p rs answers left q
    → left ≡ answer ∷ later → Counts q (posted number it answer ∷ []) r
    → CountsSome p (rs ++ (number, content.Entry it) ∷ []) answers later r
some_posted p q r rs answers left later number it answer some first counts = record {
  outcomes = some.outcomes ++ posted number it answer ∷ [];
  all = map-append record_in some.outcomes (posted number it answer ∷ [])
      ∙ ap (λ (z : List (ℕ × Content)). z ++ (number, content.Entry it) ∷ []) some.all;
  answered =
      ap (λ (z : List Answer). z ++ later) (filter_map-append answer_in some.outcomes
      (posted number it answer ∷ []))
      ∙ append_assoc (filter_map answer_in some.outcomes) (answer ∷ []) later
      ∙ ap (λ (z : List Answer). filter_map answer_in some.outcomes ++ z) (sym first)
      ∙ some.answered;
  counts = counts_then p q r some.outcomes (posted number it answer ∷ []) some.counts counts;
}

module _ (records : List (ℕ × Content)) (i : ℕ) (place : Place)
    (next : IsNext records i place) where
  pub skipped_more : (field : ℕ) → place.malformed ≡ Some field
      → (p q r : Summary) (answers left : List Answer)
      → CountsSome p (take i records) answers left q
      → Counts q (skipped place.number field ∷ []) r
      → CountsSome p (take (i + 1) records) answers left r
  skipped_more field bad p q r answers left some counts =
      subst (λ (rs : List (ℕ × Content)). CountsSome p rs answers left r)
      (sym (next.more ∙ ap (λ (at : ℕ × Content). take i records ++ at ∷ [])
      (is_malformed next.at place field next.kept bad)))
      (some_skipped p q r (take i records) answers left place.number field some counts)

  pub posted_more : place.malformed ≡ None
      → (p q r : Summary) (answers left later : List Answer) (answer : Answer)
      → CountsSome p (take i records) answers left q → left ≡ answer ∷ later
      → ((it : Request) → next.at ≡ (place.number, content.Entry it)
      → Counts q (posted place.number it answer ∷ []) r)
      → CountsSome p (take (i + 1) records) answers later r
  posted_more none p q r answers left later answer some first counts =
      let (it, at) = is_entry next.at place next.kept none in
      subst (λ (rs : List (ℕ × Content)). CountsSome p rs answers later r)
      (sym (next.more ∙ ap (λ (x : ℕ × Content). take i records ++ x ∷ []) at))
      (some_posted p q r (take i records) answers left later place.number it answer some first
      (counts it at))

-- ---- the answers that are left are as many as the posts that are left
module _ (places : List Place) (i : ℕ) (default : Place) (here : i < length places) where
  place_rest : drop i places ≡ get_or places i default ∷ drop (i + 1) places
  place_rest = rw add-one (drop-cons places i default here)

  pub left_same : (field : ℕ) → (get_or places i default).malformed ≡ Some field
      → length (filter has_post (drop i places)) ≡ length (filter has_post (drop (i + 1) places))
  left_same field bad = rw (place_rest, bad) refl

  pub left_less : (get_or places i default).malformed ≡ None
      → length (filter has_post (drop i places)) ≡ suc
      (length (filter has_post (drop (i + 1) places)))
  left_less none = rw (place_rest, none) refl

pub nothing : {X : Type 0} (xs : List X) → length xs ≤ 0 → xs ≡ []
nothing [] none = refl
nothing (x ∷ xs) none = absurd (omega arith)
