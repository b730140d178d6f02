-- Expressions whose meaning does not turn on where their table stands.
use Rattle.std.proofs.Common.{◌≡◌, ℕ, zero, suc, List, [], ◌∷◌, codes, Option, Some, None, Ok, Err}
use Rattle.std.proofs.Common.{refl, sym, ap, cond, ◌∙◌, Bool, true, false, slice_get}
use Rattle.std.specs.Prelude.{is_some, ◌&&◌, option_and_then, option_map, unwrap_or, if◌then◌else◌}
use Rattle.std.specs.Prelude.{◌==◌, ◌||◌, ◌^◌, nat_lt}
use Rattle.std.proofs.lemmas.Bool.{and_parts}
use Rattle.sqlite.specs.Schema.{Schema}
use Rattle.sqlite.specs.Table.{Table}
use Rattle.sqlite.specs.Term.{Term, lit, col, op1, op2, case}
use Rattle.sqlite_ast.specs.declared.Expr.{Expr}
use Rattle.sqlite_ast.specs.declared.Expr.TheVariants as e
use Rattle.sqlite_ast.specs.declared.Binary.{Binary}
use Rattle.sqlite_ast.specs.declared.Binary.TheVariants as binary
use Rattle.sqlite_value.specs.declared.keys.Collation.{Collation}
use Rattle.sqlite_schema.specs.Names.{column_named}
use Rattle.sqlite_resolve.specs.declared.state.State.{State}
use Rattle.sqlite_resolve.specs.declared.state.Carried.{Carried}
use Rattle.sqlite_resolve.specs.declared.scope.Output.{Output}
use Rattle.sqlite_resolve.specs.declared.scope.Bound.{Bound}
use Rattle.sqlite_resolve.specs.declared.scope.Level.{Level}
use Rattle.sqlite_resolve.specs.Lowering.{Checked, and_then, Lowering, ◌>>=◌, ◌>>◌, pure, spend}
use Rattle.sqlite_resolve.specs.Lowering.{begin, finish, last, chosen}
use Rattle.sqlite_resolve.specs.Scope.{Name, Context, column, is_rowid}
use Rattle.sqlite_resolve.specs.Compare.{of_column, compared, affinity_of, at_place, of_declared}
use Rattle.sqlite_resolve.specs.Compare.{or_else}
use Rattle.sqlite_resolve.specs.declared.compare.Affinity.{Affinity}
use Rattle.sqlite_resolve.specs.declared.compare.Affinity.TheVariants as affinity
use Rattle.sqlite_resolve.specs.Expr.{lower_to, node, opened, passes, both, combine, operation}
use Rattle.sqlite_resolve.specs.Expr.{wanted_truth, tests_truth, tests_alias}
use Rattle.sqlite_sql.specs.declared.ops.BinaryOp.{BinaryOp}
use Rattle.sqlite_tied.specs.Compute.{everything}

-- ---- what is written

pub data Op : Type 0 where
  And : Op
  Eq : Op
  Ne : Op
  Lt : Op
  Le : Op
  Gt : Op
  Ge : Op

abbrev pub word : Op → Binary
word And = binary.And
word Eq = binary.Eq
word Ne = binary.Ne
word Lt = binary.Lt
word Le = binary.Le
word Gt = binary.Gt
word Ge = binary.Ge

pub data Phrase : Type 0 where
  Column : List ℕ → Phrase
  Given : ℕ → Phrase
  Whole : List ℕ → Phrase
  Rows : Phrase
  Two : Op → Phrase → Phrase → Phrase

abbrev pub say : Phrase → Expr
say (Column name) = e.Column None name
say (Given n) = e.Parameter n
say (Whole text) = e.Integer text
say Rows = e.CallStar (codes "COUNT")
say (Two op a b) = e.Binary (word op) (say a) (say b)

-- the name is that of the rowid, which a table has whose rows are kept in the file
abbrev pub knows_rowid : Table → List ℕ → Bool
knows_rowid t name = is_rowid name && nat_lt t.tree (2 ^ 31)

-- each column is one of the table, or its rowid
abbrev pub knows : Table → Phrase → Bool
knows t (Column name) = is_some (column_named t name) || knows_rowid t name
knows t (Given n) = true
knows t (Whole text) = true
knows t Rows = true
knows t (Two op a b) = knows t a && knows t b

-- ---- the table, at its place and alone

abbrev pub here : Schema → ℕ → Name → List Output → Bool → Context
here s at name shown may =
    record {
      schema = s;
      levels = (let l : Level =
          record {
            tables =
                (let b : Bound = record { name = name; table = at; slot = 1; shared = [] } in
                b) ∷ [];
            shown = shown;
          } in l) ∷ [];
      may_aggregate = may;
      may_alias = true;
    }

abbrev pub alone : Table → Schema
alone t = record { tables = t ∷ []; indexes = []; views = [] }

-- ---- steps

pub bind_same : {A B : Type 0} (p q : Lowering A) (f g : A → Lowering B)
    → ((st : State) → p st ≡ q st) → ((a : A) (st : State) → f a st ≡ g a st) → (st : State)
    → (p >>= f) st ≡ (q >>= g) st
bind_same {A = A} {B = B} p q f g same each st = ap (λ r. and_then r (λ x. f x.0 x.1)) (same st)
    ∙ go (q st)
  where
    go : (r : Checked (A × State)) → and_then r (λ x. f x.0 x.1) ≡ and_then r (λ x. g x.0 x.1)
    go (Ok x) = each x.0 x.1
    go (Err err) = refl

abbrev pub Alike : {A : Type 0} → Lowering A → Lowering A → Type 0
Alike p q = (st : State) → p st ≡ q st

module _ (s : Schema) (at : ℕ) (t : Table) (listed : slice_get s.tables at ≡ Some t) (name : Name)
    (shown : List Output) (may : Bool) where
  column_by : (c : Name) (st : State) (o : Option ℕ) → column_named t c ≡ o
      → (is_some o || knows_rowid t c) ≡ true
      → column (here s at name shown may) None c st ≡ column (here (alone t) 0 name shown may)
      None c st
  unfolding everything
  column_by c st (Some k) is h = rw (listed, is, listed) refl
  column_by c st None is h =
      let named = (and_parts (is_rowid c) (nat_lt t.tree (2 ^ 31)) h).0 in
      let low = (and_parts (is_rowid c) (nat_lt t.tree (2 ^ 31)) h).1 in
      rw (listed, is, named, low) refl

  pub column_same : (c : Name) → knows t (Column c) ≡ true
      → Alike (column (here s at name shown may) None c)
      (column (here (alone t) 0 name shown may) None c)
  column_same c known st = column_by c st (column_named t c) refl known

  place_same : (k : ℕ) → at_place s at k ≡ at_place (alone t) 0 k
  place_same zero = refl
  place_same (suc k) =
      ap (λ o. unwrap_or
      (option_map of_declared (option_and_then (λ (t : Table). slice_get t.columns k) o))
      affinity.None) listed

  abbrev in_slot : Bool → Schema → ℕ → ℕ → Affinity
  in_slot b s' at' k =
      unwrap_or (option_map (λ table. at_place s' table k)
      (or_else (option_map (λ (b : Bound). b.table)
      (cond b (Some (record { name = name; table = at'; slot = 1; shared = [] })) None)) None))
      affinity.None

  place_by : (b : Bool) (k : ℕ) → in_slot b s at k ≡ in_slot b (alone t) 0 k
  place_by true k = place_same k
  place_by false k = refl

  affinity_same : (x : Term) → affinity_of (here s at name shown may) x ≡ affinity_of
      (here (alone t) 0 name shown may) x
  unfolding affinity_of of_column
  affinity_same (lit v) = refl
  affinity_same (col slot k) = ap (λ x. if slot == 0 && k == 0 then affinity.None else x)
      (place_by (1 == slot) k)
  affinity_same (op1 op a) = refl
  affinity_same (op2 op a b) = refl
  affinity_same (case x a b) = refl

  compared_same : (op : BinaryOp) (x y : Term) → compared (here s at name shown may) op x y
      ≡ compared (here (alone t) 0 name shown may) op x y
  unfolding compared
  compared_same op x y = rw (affinity_same x, affinity_same y) refl

  combine_same : (op : Op) (how : Collation) (x y : Term)
      → Alike (combine (here s at name shown may) (word op) how x y)
      (combine (here (alone t) 0 name shown may) (word op) how x y)
  unfolding combine
  combine_same And how x y st = refl
  combine_same Eq how x y st = ap (λ z. Ok (z, st)) (compared_same _ x y)
  combine_same Ne how x y st = ap (λ z. Ok (z, st)) (compared_same _ x y)
  combine_same Lt how x y st = ap (λ z. Ok (z, st)) (compared_same _ x y)
  combine_same Le how x y st = ap (λ z. Ok (z, st)) (compared_same _ x y)
  combine_same Gt how x y st = ap (λ z. Ok (z, st)) (compared_same _ x y)
  combine_same Ge how x y st = ap (λ z. Ok (z, st)) (compared_same _ x y)

abbrev sides : (Context → Expr → Lowering Term) → Context → Op → Expr → Expr → Lowering Term
sides lower cx op a b =
    lower cx a >>=
    (λ x. last >>=
    (λ p. lower cx b >>= (λ y. last >>= (λ q. combine cx (word op) (chosen p q) x y))))

operation_is : (lower : Context → Expr → Lowering Term) (cx : Context) (op : Op) (a b : Expr)
    → Alike (operation lower cx (word op) a b) (sides lower cx op a b)
unfolding operation both wanted_truth tests_truth tests_alias
operation_is lower cx And a b st = refl
operation_is lower cx Eq a b st = refl
operation_is lower cx Ne a b st = refl
operation_is lower cx Lt a b st = refl
operation_is lower cx Le a b st = refl
operation_is lower cx Gt a b st = refl
operation_is lower cx Ge a b st = refl

node_same : (f g : Context → Expr → Lowering Term) (cx dx : Context) (x : Expr)
    → Alike (opened f cx x) (opened g dx x) → Alike (node f cx x) (node g dx x)
unfolding node
node_same f g cx dx x same =
    let rest = λ (outer : Option Collation) (t : Term). finish outer (passes x) >> pure t in
    let tail : (outer : Option Collation) → Alike (opened f cx x >>= rest outer)
    (opened g dx x >>= rest outer) = λ outer. bind_same (opened f cx x) (opened g dx x) (rest outer)
    (rest outer) same (λ v st. refl) in
    bind_same (spend 1) (spend 1) (λ _. begin >>= (λ outer. opened f cx x >>= rest outer))
    (λ _. begin >>= (λ outer. opened g dx x >>= rest outer)) (λ st. refl)
    (λ _. bind_same begin begin (λ outer. opened f cx x >>= rest outer)
    (λ outer. opened g dx x >>= rest outer) (λ st. refl) tail)

module _ (s : Schema) (at : ℕ) (t : Table) (listed : slice_get s.tables at ≡ Some t) (name : Name)
    (shown : List Output) (may : Bool) where
  pub lower_same : (d : ℕ) (p : Phrase) → knows t p ≡ true
      → Alike (lower_to d (here s at name shown may) (say p))
      (lower_to d (here (alone t) 0 name shown may) (say p))
  unfolding lower_to opened everything
  lower_same zero p known = λ st. refl
  lower_same (suc d) (Column c) known = node_same (lower_to d) (lower_to d)
      (here s at name shown may) (here (alone t) 0 name shown may) (say (Column c))
      (column_same s at t listed name shown may c known)
  lower_same (suc d) (Given n) known = node_same (lower_to d) (lower_to d)
      (here s at name shown may) (here (alone t) 0 name shown may) (say (Given n)) (λ st. refl)
  lower_same (suc d) (Whole text) known = node_same (lower_to d) (lower_to d)
      (here s at name shown may) (here (alone t) 0 name shown may) (say (Whole text)) (λ st. refl)
  lower_same (suc d) Rows known = node_same (lower_to d) (lower_to d) (here s at name shown may)
      (here (alone t) 0 name shown may) (say Rows) (λ st. refl)
  lower_same (suc d) (Two op a b) known =
      let cx = here s at name shown may in
      let dx = here (alone t) 0 name shown may in
      let left = lower_same d a (and_parts (knows t a) (knows t b) known).0 in
      let right = lower_same d b (and_parts (knows t a) (knows t b) known).1 in
      let f = λ (y : Phrase). lower_to d cx (say y) in
      let g = λ (y : Phrase). lower_to d dx (say y) in
      let done = λ (k : Context) (x : Term) (p : Carried) (y : Term) (q : Carried). combine k
      (word op) (chosen p q) x y in
      let next = λ (h : Phrase → Lowering Term) (k : Context) (x : Term) (p : Carried).
      h b >>= (λ y. last >>= done k x p y) in
      let inner : Alike (sides (lower_to d) cx op (say a) (say b))
      (sides (lower_to d) dx op (say a) (say b)) =
      bind_same (f a) (g a) (λ x. last >>= next f cx x) (λ x. last >>= next g dx x) left
      (λ x. bind_same last last (next f cx x) (next g dx x) (λ st. refl)
      (λ p. bind_same (f b) (g b) (λ y. last >>= done cx x p y) (λ y. last >>= done dx x p y) right
      (λ y. bind_same last last (done cx x p y) (done dx x p y) (λ st. refl)
      (λ q. combine_same s at t listed name shown may op (chosen p q) x y)))) in
      node_same (lower_to d) (lower_to d) cx dx (say (Two op a b))
      (λ st. operation_is (lower_to d) cx op (say a) (say b) st ∙ inner st
      ∙ sym (operation_is (lower_to d) dx op (say a) (say b) st))
