-- What stays where a table is made beside others, and how the new one stands.
use Rattle.std.proofs.Common.{◌≡◌, ◌⊎◌, inl, ◌<◌, ◌≤◌, ℕ, List, [], ◌∷◌, codes, Option, Some, None}
use Rattle.std.proofs.Common.{refl, sym, ap, subst, ◌∙◌, Bool, true, false, arith, length, nat_le}
use Rattle.std.proofs.Common.{◌^◌, slice_get}
use Rattle.std.proofs.lemmas.Bool.Decides.{nat_tests}
use Rattle.std.specs.Prelude.{not, is_some, ◌&&◌, option_and_then, IsTrue}
use Rattle.std.specs.List.{AllByRecursion, list_any}
use Rattle.sqlite.specs.Order.{Row}
use Rattle.sqlite.specs.Rows.{sequence}
use Rattle.sqlite.specs.Schema.{Schema}
use Rattle.sqlite.specs.Table.{Table}
use Rattle.sqlite.specs.Change.{created, next_tree}
use Rattle.sqlite.specs.Does.{lacks_sequence}
use Rattle.sqlite.specs.Effect.{Database}
use Rattle.sqlite_schema.specs.Names.{same_name, table_named}
use Rattle.sqlite_schema.specs.declared.schema.Column.{Column}
use Rattle.sqlite_schema.specs.declared.schema.Reference.{Reference}
use Rattle.ftd_sql.specs.Tables.{a_table}
use Rattle.ftd_sql.specs.Kept.{HasCells}
use Rattle.ftd_sql.specs.Places.{IsAt, IsSpared, Holds, HasNoAction, IsUnnamed, KeepsTables}
use Rattle.ftd_sql.proofs.Frames.{all_at}
use Rattle.ftd_sql.proofs.Grows.{all_below, at_new, at_kept, spared_kept, spared_new, all_last}
use Rattle.ftd_sql.proofs.Grows.{get_new, get_kept, position_kept}
use Rattle.ftd_sql.proofs.Creating.{list_any_more, Made}

-- what a database keeps that was given more tables
pub record Grown (old new : Database) : Type 0 where
  pub places : (name : List ℕ) (t : Table) (at : ℕ) → IsAt old.schema name t at
      → IsAt new.schema name t at
  pub rows : (name : List ℕ) (t : Table) (at : ℕ) → IsAt old.schema name t at
      → new.trees t.tree ≡ old.trees t.tree
  pub spared : (tree : ℕ) → tree < next_tree old.schema → IsSpared old.schema tree
      → IsSpared new.schema tree
  pub next : next_tree old.schema ≤ next_tree new.schema
  pub unnamed : (name : List ℕ) → IsUnnamed old.schema name → IsUnnamed new.schema name
  pub counted : lacks_sequence old.schema ≡ false → lacks_sequence new.schema ≡ false

pub grown_then : (a b c : Database) → Grown a b → Grown b c → Grown a c
grown_then a b c g h = record {
  places = λ name t at place. h.places name t at (g.places name t at place);
  rows = λ name t at place. h.rows name t at (g.places name t at place) ∙ g.rows name t at place;
  spared = λ tree low s. h.spared tree (let n = g.next in
      omega (arith, low, n)) (g.spared tree low s);
  next = let n = g.next in let m = h.next in omega (arith, n, m);
  unnamed = λ name u. h.unnamed name (g.unnamed name u);
  counted = λ none. h.counted (g.counted none);
}

pub grown_keeps : (a b : Database) → Grown a b → KeepsTables a b
grown_keeps a b g = λ name t at place. (g.places name t at place, g.rows name t at place)

unnamed_kept : (s : Schema) (t : Table) (name : List ℕ) → AllByRecursion HasNoAction t.references
    → IsUnnamed s name → IsUnnamed (created s t) name
unnamed_kept s t name none h =
    all_last (λ (u : Table). AllByRecursion (λ r. HasNoAction r ⊎ (same_name name r.parent ≡ false))
    u.references) s.tables _ h (each t.references none)
  where
    each : (rs : List Reference) → AllByRecursion HasNoAction rs
        → AllByRecursion (λ r. HasNoAction r ⊎ (same_name name r.parent ≡ false)) rs
    each [] h = tt
    each (r ∷ rs) h = (inl h.0, each rs h.1)

-- a table without AUTOINCREMENT leaves a database that lacks no sqlite_sequence
pub lacks_kept : (s : Schema) (t : Table) → t.is_counted ≡ false → lacks_sequence s ≡ false
    → lacks_sequence (created s t) ≡ false
lacks_kept s t bare h = rw (list_any_more s.tables (record t { tree = next_tree s }) bare)
    (go (list_any (λ (u : Table). u.is_counted) s.tables) (table_named s (codes "sqlite_sequence"))
    refl h)
  where
    has : (k : ℕ) (o : Option Table) → table_named s (codes "sqlite_sequence") ≡ Some k
        → slice_get s.tables k ≡ o → not (is_some o) ≡ false
        → not (is_some (sequence (created s t))) ≡ false
    has k None is got e = absurd cc
    has k (Some u) is got e =
        rw (
          position_kept (λ (v : Table). same_name v.name (codes "sqlite_sequence")) 0 k s.tables _
              is,
          get_kept s.tables _ k u got,
        ) refl

    go : (b : Bool) (o : Option ℕ) → table_named s (codes "sqlite_sequence") ≡ o
        → (b && not (is_some (option_and_then (slice_get s.tables) o))) ≡ false
        → (b && not (is_some (sequence (created s t)))) ≡ false
    go false o is e = refl
    go true None is e = absurd cc
    go true (Some k) is e = has k (slice_get s.tables k) is refl e

-- a new table leaves the others as they were
pub grown_one : (old new : Database) (t : Table) → Made old new t
    → AllByRecursion HasNoAction t.references → t.is_counted ≡ false → Grown old new
grown_one old new t m none bare =
    let s = old.schema in
    let made : Table = record t { tree = next_tree s } in
    record {
      places = λ name u at place. subst (λ x. IsAt x name u at) (sym m.is)
          (at_kept s t u name at place);
      rows = λ name u at place. all_at (λ (v : Table). new.trees v.tree ≡ old.trees v.tree) s.tables
          at u m.others place.listed;
      spared = λ tree low h. subst (λ x. IsSpared x tree) (sym m.is)
          (spared_kept s t tree low none h);
      next = let below = all_at (λ (u : Table). u.tree < next_tree new.schema) new.schema.tables
          (length s.tables) made (all_below new.schema)
          (ap (λ (x : Schema). slice_get x.tables (length s.tables)) m.is
          ∙ get_new s.tables made) in
          let same : made.tree ≡ next_tree s = refl in omega (arith, below, same);
      unnamed = λ name h. subst (λ x. IsUnnamed x name) (sym m.is) (unnamed_kept s t name none h);
      counted = λ h. subst (λ x. lacks_sequence x ≡ false) (sym m.is) (lacks_kept s t bare h);
    }

-- the new table is below 2 ^ 31
low : (old new : Database) (t : Table) → Made old new t → nat_le (2 ^ 31) (next_tree old.schema)
    ≡ false
low old new t m =
    let new_table : Table = record t { tree = next_tree old.schema } in
    let h : next_tree old.schema < 65536 = all_at (λ (u : Table). u.tree < 65536) new.schema.tables
    (length old.schema.tables) new_table m.low
    (ap (λ (s : Schema). slice_get s.tables (length old.schema.tables)) m.is
    ∙ get_new old.schema.tables new_table) in
    grind (arith, nat_tests)

-- the new table holds no rows
pub starts : {X : Type 0} {acted : Bool} (old new : Database) (name : List ℕ)
    (columns : List Column) (key : List ℕ) (references : List Reference) (cells : X → Row)
    → Made old new (a_table name columns key references 0) → same_name name name ≡ true
    → AllByRecursion HasNoAction references → (IsTrue acted → IsUnnamed old.schema name)
    → Holds acted new name (a_table name columns key references) cells []
starts old new name columns key references cells m self none unnamed =
    let s = old.schema in
    let t = a_table name columns key references 0 in
    record {
      at = length s.tables;
      tree = next_tree s;
      place = subst (λ x. IsAt x name (a_table name columns key references (next_tree s))
          (length s.tables)) (sym m.is) (at_new s t m.free self (low _ _ _ m));
      spared = λ acts. subst (λ x. IsSpared x (next_tree s)) (sym m.is)
          (spared_new s t none (unnamed acts));
      rows = record { kept = []; rows_are = m.empty; typed = refl; rise = tt };
    }

-- a table that holds rows still holds them
pub holds_on : {X : Type 0} {acted : Bool} (old new : Database) (name : List ℕ)
    (columns : List Column) (key : List ℕ) (references : List Reference) (cells : X → Row)
    (xs : List X)
    → Grown old new → Holds acted old name (a_table name columns key references) cells xs
    → Holds acted new name (a_table name columns key references) cells xs
holds_on old new name columns key references cells xs g h =
    let t = a_table name columns key references h.tree in
    let below : h.tree < next_tree old.schema =
    all_at (λ (u : Table). u.tree < next_tree old.schema) old.schema.tables h.at t
    (all_below old.schema) h.place.listed in
    record {
      at = h.at;
      tree = h.tree;
      place = g.places name t h.at h.place;
      spared = λ acts. g.spared h.tree below (h.spared acts);
      rows = subst (λ rs. HasCells cells rs xs) (sym (g.rows name t h.at h.place)) h.rows;
    }
