-- What stays where one table is written, and where no foreign key acts.
use Rattle.std.proofs.Common.{◌≡◌, ◌≢◌, inl, inr, ℕ, zero, suc, List, [], ◌∷◌, ◌∙◌, refl, sym, ap}
use Rattle.std.proofs.Common.{subst, Option, Some, None, Bool, true, false, cond, slice_get, length}
use Rattle.std.proofs.lemmas.Bool.{ne_eqb}
use Rattle.std.specs.Prelude.{find, ◌==◌, flat_map, filter_map}
use Rattle.std.specs.List.{AllByRecursion}
use Rattle.sqlite.specs.Order.{Row}
use Rattle.sqlite.specs.Schema.{Schema}
use Rattle.sqlite.specs.Table.{Table}
use Rattle.sqlite.specs.Tree.{Trees}
use Rattle.sqlite_schema.specs.declared.schema.Keys.TheVariants.{Enforced}
use Rattle.sqlite_schema.specs.declared.schema.Reference.{Reference}
use Rattle.sqlite_schema.specs.Rules.{ParentKey, parent_key}
use Rattle.sqlite_rules.specs.declared.action.Deed.{Deed}
use Rattle.sqlite_rules.specs.Action.{works, work_by, work_for, deed_for, deed_of, pairs}
use Rattle.ftd_sql.specs.Places.{IsAt, Spares, IsSpared}

pub all_at : {X : Type 0} (P : X → Type 0) (xs : List X) (i : ℕ) (x : X) → AllByRecursion P xs
    → slice_get xs i ≡ Some x → P x
all_at P [] i x h e = absurd cc
all_at P (y ∷ ys) zero x h e = subst P (let same : y ≡ x = cc in same) h.0
all_at P (y ∷ ys) (suc i) x h e = all_at P ys i x h.1 e

-- two tables have two trees
pub apart : (s : Schema) (n m : List ℕ) (t u : Table) (i j : ℕ) → IsAt s n t i → IsAt s m u j
    → t ≢ u → t.tree ≢ u.tree
apart s n m t u i j a b differ e = differ (let h : Some t ≡ Some u = sym a.found
    ∙ ap (λ k. find (λ (v : Table). v.tree == k) s.tables) e ∙ b.found in cc)

-- the rows of another table stay
pub stays : (s : Schema) (name : List ℕ) (t : Table) (at tree : ℕ) (old next : Trees)
    → IsAt s name t at → AllByRecursion (λ (v : Table). v.tree ≢ tree → next v.tree ≡ old v.tree)
    s.tables
    → t.tree ≢ tree → next t.tree ≡ old t.tree
stays s name t at tree old next place still other = all_at (λ (v : Table). v.tree ≢ tree
    → next v.tree ≡ old v.tree) s.tables at t still place.listed other

spared_by : (s : Schema) (tree : ℕ) (olds news : List Row) (child : Table) (r : Reference)
    → Spares s tree r → work_for s Enforced 0 tree olds news child r ≡ None
spared_by s tree olds news child r (inl none) =
    ap (λ d. work_by 0 tree (pairs olds news) child r d (parent_key s.tables r))
    (go (length news == 0))
  where
    go : (b : Bool) → deed_of Enforced b (cond b r.on_delete r.on_update) ≡ None
    go true = ap (deed_of Enforced true) none.0
    go false = ap (deed_of Enforced false) none.1
spared_by s tree olds news child r (inr away) = go (deed_for Enforced (length news == 0) r)
    (parent_key s.tables r) away
  where
    go : (deed : Option Deed) (key : Option ParentKey)
        → ((k : ParentKey) → key ≡ Some k → k.0 ≢ tree)
        → work_by 0 tree (pairs olds news) child r deed key ≡ None
    go None key h = refl
    go (Some deed) None h = refl
    go (Some deed) (Some key) h = rw (ne_eqb key.0 tree (h key refl)) refl

pub quiet : (s : Schema) (tree : ℕ) (olds news : List Row) → IsSpared s tree
    → works s Enforced 0 tree olds news ≡ []
quiet s tree olds news spared = all s.tables spared
  where
    each : (child : Table) (refs : List Reference) → AllByRecursion (Spares s tree) refs
        → filter_map (work_for s Enforced 0 tree olds news child) refs ≡ []
    each child [] h = refl
    each child (r ∷ refs) h = rw (spared_by s tree olds news child r h.0) (each child refs h.1)

    all : (tables : List Table) → AllByRecursion (λ t. AllByRecursion (Spares s tree) t.references)
        tables → flat_map
        (λ (child : Table). filter_map (work_for s Enforced 0 tree olds news child)
        child.references) tables ≡ []
    all [] h = refl
    all (t ∷ more) h = rw (each t t.references h.0, all more h.1) refl
