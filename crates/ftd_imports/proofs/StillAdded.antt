-- The obligations that were added, one change after the other.
use Rattle.std.proofs.Common.{◌≡◌, refl, sym, ap, ◌∙◌, Bool, true, false, List, [], ◌∷◌, ◌++◌}
use Rattle.std.specs.Prelude.{◌&&◌, ◌||◌, not, filter, if◌then◌else◌}
use Rattle.std.specs.List.{list_any}
use Rattle.std.proofs.lemmas.List.{append_assoc, append-nil}
use Rattle.std.proofs.lemmas.List.Elements.{filter-append}
use Rattle.std.proofs.lemmas.List.Folds.{list_any-append}
use Rattle.ftd_rules.specs.declared.Obligation.{Obligation}
use Rattle.ftd_imports.specs.Added.{added_then, removes, stays, still_added}
use Rattle.ftd_imports.specs.declared.changes.AccountChange.{AccountChange}

filter_when : {X : Type 0} (a b : Bool) (x : X) (q r : X → Bool) (xs : List X) → r x ≡ b
    → (if a && b then x ∷ filter r (filter q xs) else filter r (filter q xs))
    ≡ filter r (if a then x ∷ filter q xs else filter q xs)
filter_when true true x q r xs e = rw e refl
filter_when true false x q r xs e = rw e refl
filter_when false b x q r xs e = refl

filter_both : {X : Type 0} (p q r : X → Bool) → ((x : X) → p x ≡ (q x && r x)) → (xs : List X)
    → filter p xs ≡ filter r (filter q xs)
filter_both p q r e [] = refl
filter_both p q r e (x ∷ xs) =
    rw (e x, filter_both p q r e xs) (filter_when (q x) (r x) x q r xs refl)

filter_kept : {X : Type 0} (p : X → Bool) → ((x : X) → p x ≡ true) → (xs : List X)
    → filter p xs ≡ xs
filter_kept p e [] = refl
filter_kept p e (x ∷ xs) = rw (e x, filter_kept p e xs) refl

not_either : (a b : Bool) → not (a || (b || false)) ≡ (not a && not b)
not_either true b = refl
not_either false true = refl
not_either false false = refl

module _ (change : AccountChange) where
  -- the change does not remove the obligation
  abbrev keeps : Obligation → Bool
  keeps o = not (removes o.first change)

  stays_more : (later : List AccountChange) (o : Obligation)
      → stays (later ++ change ∷ []) o ≡ (stays later o && keeps o)
  stays_more later o =
      let removed : AccountChange → Bool = removes o.first in
      ap not (list_any-append removed later (change ∷ []))
      ∙ not_either (list_any removed later) (removed change)

  pub still_more : (changes : List AccountChange)
      → still_added (changes ++ change ∷ []) ≡ added_then (still_added changes) change
  still_more [] = append-nil (filter (stays []) change.added)
      ∙ filter_kept (stays []) (λ o. refl) change.added
  still_more (x ∷ changes) =
      rw (
        filter_both (stays (changes ++ change ∷ [])) (stays changes) keeps
            (stays_more changes) x.added,
        still_more changes,
        filter-append keeps (filter (stays changes) x.added) (still_added changes),
      ) (sym (append_assoc (filter keeps (filter (stays changes) x.added))
      (filter keeps (still_added changes)) change.added))
