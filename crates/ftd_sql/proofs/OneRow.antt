-- DELETE and UPDATE over one of the desk's tables, and what a reading of it shows.
use Rattle.std.proofs.Common.{◌≡◌, ℕ, ℤ, List, [], ◌∷◌, map, not, Bool, None, refl, sym, ap, subst}
use Rattle.std.proofs.Common.{◌∙◌, drop, arith}
use Rattle.std.specs.Prelude.{filter, IsTrue}
use Rattle.std.specs.List.{list_all}
use Rattle.std.specs.List.Sorted.{IsPermutation}
use Rattle.std.proofs.lemmas.List.Sorted.{IsPermutation-map, IsPermutation-sym, length_permutation}
use Rattle.sqlite.specs.declared.types.Value.TheVariants.{Int}
use Rattle.sqlite.specs.Order.{Row}
use Rattle.sqlite.specs.Cast.{cast_row}
use Rattle.sqlite.specs.Table.{Table}
use Rattle.sqlite.specs.Term.{Term, col, holds, eval_all}
use Rattle.sqlite.specs.Tree.{rowid, put_row, without_rowid}
use Rattle.sqlite.specs.Edit.{id_in}
use Rattle.sqlite.specs.Program.{overlay}
use Rattle.sqlite.specs.Query.{IsAnswer}
use Rattle.sqlite.specs.Command.TheVariants.{Update, Delete}
use Rattle.sqlite.specs.State.{State, Writes}
use Rattle.sqlite.proofs.Callers.{one_permutation}
use Rattle.sqlite_rules.specs.Calls.{ids_of}
use Rattle.sqlite_schema.specs.declared.schema.Column.{Column}
use Rattle.sqlite_schema.specs.declared.schema.Reference.{Reference}
use Rattle.ftd_sql.specs.Tables.{a_table}
use Rattle.ftd_sql.specs.Kept.{HasCells, stored, changed}
use Rattle.ftd_sql.specs.Places.{Holds}
use Rattle.ftd_sql.proofs.KeptLemmas.{plain_query, scan, scanned, filter_typed, answer_unordered}
use Rattle.ftd_sql.proofs.KeptLemmas.{map_map}
use Rattle.ftd_sql.proofs.KeptWrites.{keeps_fewer, keeps_changed, ids_that, one_of}
use Rattle.ftd_sql.proofs.Steps.{deleted, updated_one, updated_none}
use Rattle.ftd_sql.proofs.Frames.{quiet}
use Rattle.ftd_sql.proofs.OneTable.{WritesOne}

-- the filters pass a stored row exactly where the test passes its typed row
abbrev pub Tests : {X : Type 0} → (X → Row) → (X → Bool) → List Term → Row → Type 0
Tests {X = X} cells test filters params = (p : ℤ × X)
    → list_all (holds (params ∷ stored cells p ∷ [])) filters ≡ test p.1

-- what the query finds, row by row
pub found_rows : {X : Type 0} (cells : X → Row) (test : X → Bool) (filters project : List Term)
    (params : Row) (rows : List Row) (xs : List X) (k : HasCells cells rows xs)
    → Tests cells test filters params
    → map (eval_all project) (scan filters params rows) ≡ map
    (λ p. eval_all project (params ∷ stored cells p ∷ [])) (filter (λ p. test p.1) k.kept)
found_rows cells test filters project params rows xs k tested =
    ap (λ rs. map (eval_all project) (scan filters params rs)) k.rows_are
    ∙ ap (map (eval_all project)) (scanned cells test filters params tested k.kept)
    ∙ map_map (eval_all project) (λ p. params ∷ stored cells p ∷ []) (filter (λ p. test p.1) k.kept)

-- a DELETE takes out the rows that pass
pub takes_out : {X : Type 0} {acted : Bool} (old new : State) (name : List ℕ)
    (columns : List Column) (key : List ℕ) (references : List Reference) (cells : X → Row)
    (xs : List X) (test : X → Bool)
    (h : Holds acted old.now name (a_table name columns key references) cells xs)
    (acts : IsTrue acted) (filters : List Term) (text : List ℕ) (params : Row) (count : ℕ)
    → Tests cells test filters params
    → Writes old new None
    (Delete h.at (record { lets = []; body = plain_query h.tree filters (col 1 0 ∷ []) [] })) text
    params count
    → (w : WritesOne old.now new.now h.tree) × HasCells cells (w.next h.tree)
    (filter (λ x. not (test x)) xs)
takes_out old new name columns key references cells xs test h acts filters text params count tested
    w =
    let made = deleted old new h.at name columns key references h.tree _ text params
    h.place.listed count (λ olds. quiet old.now.schema h.tree olds [] (h.spared acts)) w in
    let found = answer_unordered h.tree filters (col 1 0 ∷ []) old.now.trees params made.1 made.2 in
    let ids : map (λ (r : Row). id_in (rowid r))
    (map (eval_all (col 1 0 ∷ [])) (scan filters params (old.now.trees h.tree))) ≡ ids_that test
    h.rows.kept =
    ap (map (λ (r : Row). id_in (rowid r))) (found_rows cells test filters (col 1 0 ∷ []) params
    (old.now.trees h.tree) xs h.rows tested)
    ∙ map_map (λ (r : Row). id_in (rowid r))
    (λ p. eval_all (col 1 0 ∷ []) (params ∷ stored cells p ∷ []))
    (filter (λ p. test p.1) h.rows.kept) in
    let moved : IsPermutation (ids_that test h.rows.kept) (ids_of made.1) =
    subst (λ k. IsPermutation k (ids_of made.1)) ids
    (IsPermutation-map (λ (r : Row). id_in (rowid r)) _ _ found) in
    let step = made.4 in (
      record { next = made.0; is = made.3; others = step.tables },
      subst (λ rows. HasCells cells rows (filter (λ x. not (test x)) xs)) (sym step.rows)
          (keeps_fewer cells test (old.now.trees h.tree) xs (ids_of made.1) h.rows moved),
    )

-- an UPDATE that finds one row changes it, and it is the one that passes
pub changes_row : {X : Type 0} {acted : Bool} (old new : State) (name : List ℕ)
    (columns : List Column) (key : List ℕ) (references : List Reference) (cells : X → Row)
    (xs : List X) (test : X → Bool) (f : X → X)
    (h : Holds acted old.now name (a_table name columns key references) cells xs)
    (acts : IsTrue acted) (filters project : List Term) (text : List ℕ) (params : Row)
    → Tests cells test filters params
    → ((p : ℤ × X) → cast_row (a_table name columns key references h.tree)
    (drop 1 (eval_all project (params ∷ stored cells p ∷ []))) ≡ Int p.0 ∷ cells (f p.1))
    → ((p : ℤ × X) → id_in (rowid (eval_all project (params ∷ stored cells p ∷ []))) ≡ p.0)
    → Writes old new None
    (Update h.at (record { lets = []; body = plain_query h.tree filters project [] })) text params 1
    → (w : WritesOne old.now new.now h.tree)
    × HasCells cells (w.next h.tree) (map (changed test f) xs)
    × ((x : X) × (filter test xs ≡ x ∷ []))
changes_row {X = X} old new name columns key references cells xs test f h acts filters project text
    params tested recast same_id w =
    let table = a_table name columns key references h.tree in
    let made = updated_one old new h.at name columns key references h.tree _ text params
    h.place.listed (λ olds row. quiet old.now.schema h.tree olds (row ∷ []) (h.spared acts)) w in
    let row = made.1 in
    let made_of : ℤ × X → Row = λ p. eval_all project (params ∷ stored cells p ∷ []) in
    let found = answer_unordered h.tree filters project old.now.trees params (row ∷ []) made.2 in
    let shown = found_rows cells test filters project params (old.now.trees h.tree) xs h.rows
    tested in
    let single = one_permutation row _ (IsPermutation-sym _ _ found) in
    let one = one_of made_of (filter (λ p. test p.1) h.rows.kept) row (sym shown ∙ single) in
    let p = one.0 in
    let rows : made.0 h.tree ≡ put_row (Int p.0 ∷ cells (f p.1))
    (without_rowid p.0 (old.now.trees h.tree)) =
    made.4 ∙ ap (λ (r : Row). put_row (cast_row table (drop 1 r))
    (without_rowid (id_in (rowid r)) (old.now.trees h.tree))) (sym one.2)
    ∙ ap (λ (r : Row). put_row r (without_rowid (id_in (rowid (made_of p))) (old.now.trees h.tree)))
    (recast p)
    ∙ ap (λ (n : ℤ). put_row (Int p.0 ∷ cells (f p.1)) (without_rowid n (old.now.trees h.tree)))
    (same_id p) in (
      record { next = made.0; is = made.3; others = made.5 },
      subst (λ rs. HasCells cells rs (map (changed test f) xs)) (sym rows)
          (keeps_changed cells test f (old.now.trees h.tree) xs h.rows p one.1),
      (
        p.1,
        ap (filter test) (sym h.rows.typed) ∙ sym (filter_typed test h.rows.kept)
            ∙ ap (map (λ p. p.1)) one.1,
      ),
    )

-- an UPDATE that finds none changes none, and no row passes
pub changes_none : {X : Type 0} {acted : Bool} (old new : State) (name : List ℕ)
    (columns : List Column) (key : List ℕ) (references : List Reference) (cells : X → Row)
    (xs : List X) (test : X → Bool)
    (h : Holds acted old.now name (a_table name columns key references) cells xs)
    (acts : IsTrue acted) (filters project : List Term) (text : List ℕ) (params : Row)
    → Tests cells test filters params
    → Writes old new None
    (Update h.at (record { lets = []; body = plain_query h.tree filters project [] })) text params 0
    → (w : WritesOne old.now new.now h.tree) × HasCells cells (w.next h.tree) xs
    × (filter test xs ≡ [])
changes_none {X = X} old new name columns key references cells xs test h acts filters project text
    params tested w =
    let made = updated_none old new h.at name columns key references h.tree _ text params
    h.place.listed (λ olds. quiet old.now.schema h.tree olds [] (h.spared acts)) w in
    let made_of : ℤ × X → Row = λ p. eval_all project (params ∷ stored cells p ∷ []) in
    let found = answer_unordered h.tree filters project old.now.trees params [] made.1 in
    let shown = found_rows cells test filters project params (old.now.trees h.tree) xs h.rows
    tested in
    let bare = none_permutation _ found in
    let none : filter (λ p. test p.1) h.rows.kept ≡ [] = none_of made_of _ (sym shown ∙ bare) in (
      record { next = made.0; is = made.2; others = made.4 },
      subst (λ rs. HasCells cells rs xs) (sym made.3) h.rows,
      ap (filter test) (sym h.rows.typed) ∙ sym (filter_typed test h.rows.kept)
          ∙ ap (map (λ p. p.1)) none,
    )
  where
    none_of : {A B : Type 0} (f : A → B) (ys : List A) → map f ys ≡ [] → ys ≡ []
    none_of f [] e = refl
    none_of f (y ∷ ys) e = absurd cc

    none_permutation : (ys : List Row) → IsPermutation ys [] → ys ≡ []
    none_permutation [] moved = refl
    none_permutation (y ∷ ys) moved = absurd (let same = length_permutation (y ∷ ys) [] moved in
        omega arith)

-- what an unordered reading of the rows that pass shows
pub shows_rows : {X : Type 0} {acted : Bool} (old : State) (name : List ℕ) (make : ℕ → Table)
    (cells shown : X → Row) (xs : List X) (test : X → Bool)
    (h : Holds acted old.now name make cells xs) (filters project : List Term) (params : Row)
    (rows : List Row)
    → Tests cells test filters params
    → ((p : ℤ × X) → eval_all project (params ∷ stored cells p ∷ []) ≡ shown p.1)
    → IsAnswer (plain_query h.tree filters project []) (overlay old.now.trees []) params rows
    → IsPermutation (map shown (filter test xs)) rows
shows_rows {X = X} old name make cells shown xs test h filters project params rows tested seen
    answer =
    let found = answer_unordered h.tree filters project old.now.trees params rows answer in
    let each : (ps : List (ℤ × X)) → map (λ p. eval_all project (params ∷ stored cells p ∷ [])) ps
    ≡ map shown (map (λ p. p.1) ps) = all_seen in
    let is : map (eval_all project) (scan filters params (old.now.trees h.tree)) ≡ map shown
    (filter test xs) =
    found_rows cells test filters project params (old.now.trees h.tree) xs h.rows tested
    ∙ each (filter (λ p. test p.1) h.rows.kept)
    ∙ ap (map shown) (filter_typed test h.rows.kept ∙ ap (filter test) h.rows.typed) in
    subst (λ ys. IsPermutation ys rows) is found
  where
    all_seen : (ps : List (ℤ × X)) → map (λ p. eval_all project (params ∷ stored cells p ∷ [])) ps
        ≡ map shown (map (λ p. p.1) ps)
    all_seen [] = refl
    all_seen (p ∷ ps) = rw (seen p, all_seen ps) refl
