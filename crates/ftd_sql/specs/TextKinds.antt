-- What kind of statement a text is, whatever the schema.
use Rattle.std.specs.Prelude.{◌≡◌, ℕ, List, [], Ok, slice_range, ⊤}
use Rattle.sqlite_ast.specs.declared.Select as ast
use Rattle.sqlite_ast.specs.declared.Conflict.TheVariants as conflict
use Rattle.sqlite_ast.specs.declared.Statement.{Statement}
use Rattle.sqlite_ast.specs.declared.Statement.TheVariants as written
use Rattle.sqlite_syntax.specs.declared.statement.Parsed.{Parsed}
use Rattle.sqlite_resolve.specs.Compile.{first}

-- the text is read as this statement
pub record IsReadAs (text : List ℕ) (statement : Statement) : Type 0 where
  pub read : Parsed
  pub is : first text ≡ Ok read
  pub said : read.statement ≡ statement
  pub untimed : read.formats ≡ []
  pub whole : slice_range text read.start read.end ≡ text

-- the statement speaks of rows: it reads, adds, changes or takes out, and names no clause besides
abbrev pub IsOfRows : Statement → Type 0
IsOfRows (written.Select q) = ⊤
IsOfRows (written.Insert conflict.Abort name columns rows [] []) = ⊤
IsOfRows (written.Update name sets test []) = ⊤
IsOfRows (written.Delete name test []) = ⊤
IsOfRows _ = ⊥

abbrev pub IsRowText : List ℕ → Type 0
IsRowText text = (st : Statement) × IsReadAs text st × IsOfRows st

abbrev pub IsReadText : List ℕ → Type 0
IsReadText text = (q : ast.Select) × IsReadAs text (written.Select q)
