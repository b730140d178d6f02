-- The parts of which the statements are made: columns, tests and orders, as they are written and as
-- they are computed.
use Rattle.std.proofs.Common.{ℕ, zero, suc, pos, negsuc, List, [], ◌∷◌, codes, map, Bool, false}
use Rattle.std.proofs.Common.{Option, Some, None}
use Rattle.sqlite.specs.declared.types.Value.TheVariants.{Int, Null}
use Rattle.sqlite.specs.Collation.TheVariants.{Binary}
use Rattle.sqlite.specs.Query.{inner, end}
use Rattle.sqlite.specs.Term.{Term, lit, col, op2}
use Rattle.sqlite_sql.specs.declared.ops.BinaryOp.{BinaryOp}
use Rattle.sqlite_sql.specs.declared.ops.BinaryOp.TheVariants.{Compare}
use Rattle.sqlite_sql.specs.declared.ops.CompareOp.TheVariants as by
use Rattle.sqlite_sql.specs.declared.aggregate.AggregateOp.TheVariants.{CountRows}
use Rattle.sqlite_draft.specs.declared.join.Step.TheVariants.{Inner}
use Rattle.sqlite_draft.specs.declared.query.Draft.{Draft}
use Rattle.sqlite_resolve.specs.Select.{ungrouped}
use Rattle.sqlite_resolve.specs.declared.scope.Output.{Output}
use Rattle.sqlite_value.specs.declared.keys.Key.{Key}
use Rattle.ftd_sql.proofs.Passing.{rising}
use Rattle.ftd_sql.proofs.Phrase.{Phrase, Column, Given, Whole, Two, Op, And, Eq, Lt, Le, Ge}
use Rattle.ftd_sql.proofs.Selects.{out, page}

-- a column of a table, and its place in a stored row
pub record Place : Type 0 where
  pub name : List ℕ
  pub at : ℕ

abbrev pub place : List ℕ → ℕ → Place
place name at = record { name = name; at = at }

-- the order in which the rows were added: a row is stored with its rowid before its cells
abbrev pub by_rowid : List Place
by_rowid = place (codes "rowid") 0 ∷ []

-- what a column is compared with: the value of a place, from 1, or zero
pub data Other : Type 0 where
  Value : ℕ → Other
  Zero : Other

-- how it is compared
pub data Relation : Type 0 where
  Is : Relation
  IsBelow : Relation
  IsAtMost : Relation
  IsAtLeast : Relation

pub record Test : Type 0 where
  pub column : Place
  pub relation : Relation
  pub other : Other

abbrev pub test_on : List ℕ → ℕ → Relation → Other → Test
test_on name at relation other = record {
  column = place name at;
  relation = relation;
  other = other;
}

-- ---- as they are written

abbrev written_relation : Relation → Op
written_relation Is = Eq
written_relation IsBelow = Lt
written_relation IsAtMost = Le
written_relation IsAtLeast = Ge

abbrev written_other : Other → Phrase
written_other (Value n) = Given n
written_other Zero = Whole (codes "0")

abbrev written_test : Test → Phrase
written_test t = Two (written_relation t.relation) (Column t.column.name) (written_other t.other)

abbrev written_more : Phrase → List Test → Phrase
written_more first [] = first
written_more first (t ∷ more) = written_more (Two And first (written_test t)) more

-- the tests joined by AND
abbrev pub joined : Test → List Test → Phrase
joined first more = written_more (written_test first) more

abbrev pub where_of : List Test → Option Phrase
where_of [] = None
where_of (t ∷ more) = Some (joined t more)

abbrev pub shown_of : List Place → List (Phrase × List ℕ)
shown_of places = map (λ (p : Place). (Column p.name, p.name)) places

abbrev pub order_of : List Place → List (Phrase × Bool)
order_of places = map (λ (p : Place). (Column p.name, false)) places

-- ---- as they are computed

abbrev relation_of : Relation → BinaryOp
relation_of Is = Compare by.Eq Binary
relation_of IsBelow = Compare by.Lt Binary
relation_of IsAtMost = Compare by.Le Binary
relation_of IsAtLeast = Compare by.Ge Binary

-- the values are counted from 0 in a row
abbrev other_of : Other → Term
other_of (Value zero) = lit Null
other_of (Value (suc n)) = col 0 n
other_of Zero = lit (Int (pos 0))

abbrev pub filters_of : List Test → List Term
filters_of tests = map (λ (t : Test). op2 (relation_of t.relation) (col 1 t.column.at)
    (other_of t.other)) tests

abbrev pub project_of : List Place → List Term
project_of places = map (λ (p : Place). col 1 p.at) places

abbrev pub outs_of : List Place → List Output
outs_of places = map (λ (p : Place). out p.name p.at) places

abbrev pub keys_of : List Place → List (Term × Key)
keys_of places = map (λ (p : Place). (col 1 p.at, rising)) places

abbrev pub draft_of : List Place → List Test → List Place → ℕ → Draft
draft_of columns tests order tree = ungrouped (Inner tree ∷ []) (filters_of tests)
    (outs_of columns) false (keys_of order) page.0 page.1

-- ---- counting

-- the number by which a draft names the count, before rows are grouped
abbrev ungrouped_count : ℕ
ungrouped_count = 18446744073709551615

abbrev pub count_out : Output
count_out = record {
  name = codes "COUNT(*)";
  is_alias = false;
  is_column = false;
  term = col ungrouped_count 0;
  carried = record { collation = None; is_written = false };
}

abbrev pub count_draft : List Test → ℕ → Draft
count_draft tests tree = record {
  from = inner tree end;
  filter = filters_of tests;
  group = Some
      (record {
        keys = [];
        collations = [];
        aggregates = record {
          op = CountRows;
          distinct = false;
          collation = Binary;
          argument = lit Null;
        } ∷ [];
        having = [];
      });
  project = col 1 0 ∷ [];
  distinct = false;
  collations = [];
  order = [];
  limit = lit (Int (negsuc 0));
  offset = lit (Int (pos 0));
}
