-- What a reading in order shows of one of the desk's tables.
use Rattle.std.proofs.Common.{◌≡◌, ℕ, ℤ, pos, ◌+◌, List, [], ◌∷◌, map, get_or, false, refl, ap}
use Rattle.std.proofs.Common.{subst, sym, ◌∙◌, arith, Bool, ◌<◌, length, int_cmp}
use Rattle.std.specs.Prelude.{filter, ◌<ℤ◌}
use Rattle.std.specs.declared.cmp.Ordering.{Ordering}
use Rattle.std.specs.declared.cmp.Ordering.TheVariants.{Less, Equal}
use Rattle.std.specs.Cmp.{int_cmp_is}
use Rattle.std.specs.List.Sorted.{IsPermutation, IsSorted}
use Rattle.std.specs.Ordering.{is_lt, on, ordering_then}
use Rattle.std.proofs.lemmas.Cmp.{int_cmp_total, on_total}
use Rattle.std.proofs.Math.ListN as raw
use Rattle.std.proofs.lemmas.List.{length-map}
use Rattle.std.proofs.lemmas.List.Sorted.{IsPermutation-map}
use Rattle.sqlite.specs.declared.types.Value.TheVariants.{Int}
use Rattle.sqlite.specs.Order.{Row, value_cmp}
use Rattle.sqlite.specs.Tree.{IsAscending}
use Rattle.sqlite.specs.Table.{Table}
use Rattle.sqlite.specs.Term.{Term, col, eval_all}
use Rattle.sqlite.specs.Program.{overlay}
use Rattle.sqlite.specs.Query.{IsAnswer, output, output_cmp}
use Rattle.sqlite.specs.State.{State}
use Rattle.sqlite_value.specs.declared.keys.Key.{Key}
use Rattle.sqlite_value.proofs.OrderLemmas.{value_cmp-Int, then-Equal}
use Rattle.sqlite_keyed.proofs.ListLemmas.{ascending-filter, ascending_weaker}
use Rattle.sqlite_keyed.proofs.SortLemmas.{sorted_unique}
use Rattle.ftd_sql.specs.Kept.{stored}
use Rattle.ftd_sql.specs.Order.{EachToNext}
use Rattle.ftd_sql.specs.Places.{Holds}
use Rattle.ftd_sql.proofs.KeptLemmas.{plain_query, scan, scanned, filter_typed, map_map}
use Rattle.ftd_sql.proofs.Ordered.{answer_ordered, lifted}
use Rattle.ftd_sql.proofs.OneRow.{Tests}
use Rattle.ftd_sql.proofs.Passing.{rising}

-- the rows that pass, each with its rowid, in an order in which no row comes before the one that it
-- follows
shows_kept : {X : Type 0} {acted : Bool} (old : State) (name : List ℕ) (make : ℕ → Table)
    (cells shown : X → Row) (xs : List X) (test : X → Bool) (R : ℤ × X → ℤ × X → Type 0)
    (h : Holds acted old.now name make cells xs) (filters project : List Term)
    (keys : List (Term × Key)) (params : Row) (rows : List Row)
    → Tests cells test filters params
    → ((p : ℤ × X) → eval_all project (params ∷ stored cells p ∷ []) ≡ shown p.1)
    → ((p r : ℤ × X)
    → is_lt (output_cmp (plain_query h.tree filters project keys)
    (output (plain_query h.tree filters project keys) (params ∷ stored cells r ∷ []))
    (output (plain_query h.tree filters project keys) (params ∷ stored cells p ∷ []))) ≡ false
    → R p r)
    → IsAnswer (plain_query h.tree filters project keys) (overlay old.now.trees []) params rows
    → (qs : List (ℤ × X)) × IsPermutation (filter (λ p. test p.1) h.rows.kept) qs
    × (rows ≡ map shown (map (λ p. p.1) qs)) × EachToNext R qs
shows_kept {X = X} old name make cells shown xs test R h filters project keys params rows tested
    seen rises answer =
    let q = plain_query h.tree filters project keys in
    let f : ℤ × X → List Row = λ p. params ∷ stored cells p ∷ [] in
    let all = answer_ordered h.tree filters project keys old.now.trees params rows answer in
    let passed : scan filters params (old.now.trees h.tree) ≡ map f
    (filter (λ p. test p.1) h.rows.kept) = ap (scan filters params) h.rows.rows_are
    ∙ scanned cells test filters params tested h.rows.kept in
    let up = lifted f (filter (λ p. test p.1) h.rows.kept) all.0
    (subst (λ k. IsPermutation k all.0) passed all.1) in
    let qs : List (ℤ × X) = up.0 in (
      qs,
      up.1,
      all.2 ∙ ap (map (eval_all project)) up.2 ∙ map_map (eval_all project) f qs ∙ all_seen qs,
      λ k z low.
          let g = λ (p : ℤ × X). output q (f p) in
          let sorted = subst (λ k. IsSorted (output_cmp q) k) (ap (map (output q)) up.2
          ∙ map_map (output q) f qs) all.3 in
          let one = sorted k (g z) (omega arith) (omega (arith, length-map qs g)) in
          let two = rw (raw.get_or-map g qs (k + 1) z, raw.get_or-map g qs k z) at one in
          rises (get_or qs k z) (get_or qs (k + 1) z) two,
    )
  where
    all_seen : (ps : List (ℤ × X)) → map (λ p. eval_all project (params ∷ stored cells p ∷ [])) ps
        ≡ map shown (map (λ p. p.1) ps)
    all_seen [] = refl
    all_seen (p ∷ ps) = rw (seen p, all_seen ps) refl

typed_rows : {X : Type 0} {acted : Bool} (old : State) (name : List ℕ) (make : ℕ → Table)
    (cells : X → Row) (xs : List X) (test : X → Bool) (h : Holds acted old.now name make cells xs)
    → map (λ p. p.1) (filter (λ p. test p.1) h.rows.kept) ≡ filter test xs
typed_rows old name make cells xs test h = filter_typed test h.rows.kept
    ∙ ap (filter test) h.rows.typed

-- the rows that pass, in an order in which no row comes before the one that it follows
pub shows_in_order : {X : Type 0} {acted : Bool} (old : State) (name : List ℕ) (make : ℕ → Table)
    (cells shown : X → Row) (xs : List X) (test : X → Bool) (R : X → X → Type 0)
    (h : Holds acted old.now name make cells xs) (filters project : List Term)
    (keys : List (Term × Key)) (params : Row) (rows : List Row)
    → Tests cells test filters params
    → ((p : ℤ × X) → eval_all project (params ∷ stored cells p ∷ []) ≡ shown p.1)
    → ((a b : X) (m n : ℤ)
    → is_lt (output_cmp (plain_query h.tree filters project keys)
    (output (plain_query h.tree filters project keys) (params ∷ stored cells (m, b) ∷ []))
    (output (plain_query h.tree filters project keys) (params ∷ stored cells (n, a) ∷ []))) ≡ false
    → R a b)
    → IsAnswer (plain_query h.tree filters project keys) (overlay old.now.trees []) params rows
    → (ys : List X) × IsPermutation (filter test xs) ys × (rows ≡ map shown ys) × EachToNext R ys
shows_in_order {X = X} old name make cells shown xs test R h filters project keys params rows tested
    seen rises answer =
    let found = shows_kept old name make cells shown xs test (λ p r. R p.1 r.1) h filters project
    keys params rows tested seen (λ p r low. rises p.1 r.1 r.0 p.0 low) answer in
    let qs : List (ℤ × X) = found.0 in (
      map (λ (p : ℤ × X). p.1) qs,
      subst (λ k. IsPermutation k (map (λ (p : ℤ × X). p.1) qs))
          (typed_rows old name make cells xs test h)
          (IsPermutation-map (λ (p : ℤ × X). p.1) _ qs found.1),
      found.2,
      λ k d low.
          let z : ℤ × X = (pos 0, d) in
          let far : k + 1 < length qs = omega (arith, length-map qs (λ (p : ℤ × X). p.1)) in
          rw (
            raw.get_or-map (λ (p : ℤ × X). p.1) qs k z,
            raw.get_or-map (λ (p : ℤ × X). p.1) qs
                (k + 1) z,
          ) (found.3 k z far),
    )

-- ---- by rowid

abbrev rowid_cmp : {X : Type 0} → ℤ × X → ℤ × X → Ordering
rowid_cmp = on (λ p. p.0) int_cmp

less_if : (a b : ℤ) → a <ℤ b → int_cmp a b ≡ Less
less_if a b h = sym (int_cmp_is a b Less h)

-- the order of the rowids, as the engine compares them
rowid_rises : (a b : ℤ) → is_lt (ordering_then (value_cmp (Int b) (Int a)) Equal) ≡ false
    → is_lt (int_cmp b a) ≡ false
rowid_rises a b h =
    sym (ap is_lt (then-Equal (value_cmp (Int b) (Int a)) ∙ value_cmp-Int b a)) ∙ h

-- by rowid the rows that pass come in the order in which they were added
pub shows_in_row_order : {X : Type 0} {acted : Bool} (old : State) (name : List ℕ)
    (make : ℕ → Table) (cells shown : X → Row) (xs : List X) (test : X → Bool)
    (h : Holds acted old.now name make cells xs) (filters project : List Term) (params : Row)
    (rows : List Row)
    → Tests cells test filters params
    → ((p : ℤ × X) → eval_all project (params ∷ stored cells p ∷ []) ≡ shown p.1)
    → IsAnswer (plain_query h.tree filters project ((col 1 0, rising) ∷ []))
    (overlay old.now.trees []) params rows → rows ≡ map shown (filter test xs)
shows_in_row_order {X = X} old name make cells shown xs test h filters project params rows tested
    seen answer =
    let found = shows_kept old name make cells shown xs test
    (λ p r. is_lt (int_cmp r.0 p.0) ≡ false) h filters project ((col 1 0, rising) ∷ []) params rows
    tested seen (λ p r low. rowid_rises p.0 r.0 low) answer in
    let kept : List (ℤ × X) = filter (λ p. test p.1) h.rows.kept in
    let strict : IsAscending (λ (p r : ℤ × X). rowid_cmp p r ≡ Less) kept =
    ascending-filter (λ (p r : ℤ × X). rowid_cmp p r ≡ Less) (λ p. test p.1) h.rows.kept
    (ascending_weaker (λ (p r : ℤ × X). p.0 <ℤ r.0) (λ (p r : ℤ × X). rowid_cmp p r ≡ Less)
    (λ p r. less_if p.0 r.0) h.rows.kept h.rows.rise) in
    let same : found.0 ≡ kept = sorted_unique rowid_cmp (on_total (λ (p : ℤ × X). p.0)
    int_cmp_total) kept found.0 strict found.1 (λ k d low far. found.3 k d far) in
    found.2 ∙ ap (λ (ps : List (ℤ × X)). map shown (map (λ p. p.1) ps)) same
    ∙ ap (map shown) (typed_rows old name make cells xs test h)
