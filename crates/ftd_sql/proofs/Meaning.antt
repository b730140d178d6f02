-- What a text means over a table that stands anywhere in the schema.
use Rattle.std.proofs.Common.{◌≡◌, ℕ, List, [], ◌∷◌, Option, Some, None, Ok, Err, refl, ◌∙◌, true}
use Rattle.std.proofs.Common.{false, ◌+◌, Bool, Result, subst, sym}
use Rattle.std.specs.Prelude.{if◌then◌else◌}
use Rattle.std.specs.Prelude.{◌&&◌}
use Rattle.sqlite.specs.Schema.{Schema}
use Rattle.sqlite.specs.Table.{Table}
use Rattle.sqlite.specs.Query.{Query, inner, end}
use Rattle.sqlite.specs.Command.{Command}
use Rattle.sqlite.specs.Command.TheVariants.{Insert, Delete}
use Rattle.sqlite.specs.Source.{Source}
use Rattle.sqlite.specs.Listing.{understood, reads_listing, misses_table, if_select, is_select}
use Rattle.sqlite.specs.Listing.{listing_schema}
use Rattle.sqlite_ast.specs.declared.Select.{Select}
use Rattle.sqlite_resolve.specs.declared.error.CompileError.TheVariants.{NoSuchTable}
use Rattle.sqlite_resolve.specs.Lowering.{Checked}
use Rattle.sqlite_resolve.specs.declared.error.CompileError.{CompileError}
use Rattle.sqlite.proofs.Callers.{IsPlain, command_of, statement_of}
use Rattle.sqlite_ast.specs.declared.Expr.{Expr}
use Rattle.sqlite_ast.specs.declared.Rows.{Rows}
use Rattle.sqlite_ast.specs.declared.Conflict.TheVariants as conflict
use Rattle.sqlite_ast.specs.declared.Statement.{Statement}
use Rattle.sqlite_ast.specs.declared.Statement.TheVariants as written
use Rattle.sqlite_syntax.specs.declared.statement.Parsed.{Parsed}
use Rattle.sqlite_draft.specs.declared.query.Draft.{Draft}
use Rattle.sqlite_draft.specs.Query.{query_of}
use Rattle.sqlite_typing.specs.Types.{row_classes, accepts_after, is_count}
use Rattle.sqlite_resolve.specs.declared.compiled.Compiled.{Compiled}
use Rattle.sqlite_resolve.specs.Lowering.{and_then, fresh, max_budget}
use Rattle.sqlite_resolve.specs.Scope.{Name}
use Rattle.sqlite_resolve.specs.Body.{tests}
use Rattle.sqlite_resolve.specs.Write.{deleted, picked}
use Rattle.sqlite_resolve.specs.Program.{program}
use Rattle.sqlite_resolve.specs.Compile.{compiled, small, planned, meaning, command, returning}
use Rattle.sqlite_resolve.specs.Compile.{timed, shows, delete, insert, insert_or_abort, new_rows}
use Rattle.ftd_sql.specs.Places.{IsAt}
use Rattle.ftd_sql.specs.TextKinds.{IsReadAs}
use Rattle.ftd_sql.proofs.Phrase.{Phrase, say, knows, alone, lower_same}

-- the text stands for this command
pub record Means (s : Schema) (text : List ℕ) (c : Command) : Type 0 where
  pub is : command_of (understood s text) ≡ c
  pub plain : IsPlain (understood s text)
  pub unlisted : reads_listing s text ≡ false
  pub whole : statement_of text (understood s text) ≡ text

-- how many parameters the statement has
abbrev pub base_of : Parsed → ℕ
base_of p = small p.names + small []

pub means_at : (s : Schema) (text : List ℕ) (st : Statement) (c : Command) (r : IsReadAs text st)
    → timed s [] st ≡ [] → returning s (base_of r.read) st ≡ Ok None
    → command s [] (base_of r.read) st ≡ Ok c → Means s text c
unfolding compiled planned meaning understood
means_at s text st c r untimed bare gives = record {
  is = rw known refl;
  plain = rw known (refl, refl);
  unlisted = rw is refl;
  whole = rw known r.whole;
}
  where
    found : Compiled
    found = record {
      command = c;
      returning = None;
      names = r.read.names;
      formats = [];
      start = r.read.start;
      end = r.read.end;
      tail = r.read.tail;
    }

    is : compiled s text ≡ Ok found
    is = rw (r.is, r.said, r.untimed, untimed, bare, gives) refl

    known : understood s text ≡ Ok found
    known = rw is refl

pub means : (s : Schema) (text : List ℕ) (st : Statement) (c : Command) → IsReadAs text st
    → timed s [] st ≡ [] → ((base : ℕ) → returning s base st ≡ Ok None)
    → ((base : ℕ) → command s [] base st ≡ Ok c) → Means s text c
means s text st c r untimed bare gives = means_at s text st c r untimed (bare (base_of r.read))
    (gives (base_of r.read))

-- a text that is refused is not understood
pub refused : (s : Schema) (text : List ℕ) (st : Statement) (e : CompileError) → IsReadAs text st
    → timed s [] st ≡ [] → ((base : ℕ) → returning s base st ≡ Ok None)
    → ((base : ℕ) → command s [] base st ≡ Err e)
    → misses_table (Err e) ≡ false → understood s text ≡ Err e
unfolding compiled planned meaning understood
refused s text st e r untimed bare gives other = rw (is, other) refl
  where
    is : compiled s text ≡ Err e
    is = rw (
      r.is,
      r.said,
      r.untimed,
      untimed,
      bare (small r.read.names + small []),
      gives (small r.read.names + small []),
    ) refl

command_plain : (x : Schema) (text : List ℕ) (q : Select) → IsReadAs text (written.Select q)
    → (d : Compiled) (o : Checked Command) → command x [] 0 (written.Select q) ≡ o
    → compiled x text ≡ Ok d → (d.returning ≡ None) × (d.formats ≡ [])
unfolding compiled planned meaning timed returning command
command_plain x text q r d (Ok k) known is = let e = rw (r.is, r.said, r.untimed, known) at is in
    (cc, cc)
command_plain x text q r d (Err k) known is =
    absurd (let e = rw (r.is, r.said, r.untimed, known) at is in cc)

compiled_plain : (x : Schema) (text : List ℕ) (q : Select) → IsReadAs text (written.Select q)
    → (d : Compiled) → compiled x text ≡ Ok d → (d.returning ≡ None) × (d.formats ≡ [])
compiled_plain x text q r d is = command_plain x text q r d (command x [] 0 (written.Select q)) refl
    is

picked_plain : (o : Result Compiled CompileError)
    → ((d : Compiled) → o ≡ Ok d → (d.returning ≡ None) × (d.formats ≡ [])) → (c : Compiled)
    → if_select o ≡ Ok c → (c.returning ≡ None) × (c.formats ≡ [])
picked_plain (Ok d) each c e = go (is_select d.command) e
  where
    go : (b : Bool) → (if b then Ok d else Err NoSuchTable) ≡ Ok c → (c.returning ≡ None)
        × (c.formats ≡ [])
    go true e = let same : d ≡ c = cc in
        subst (λ (x : Compiled). (x.returning ≡ None) × (x.formats ≡ [])) same (each d refl)
    go false e = absurd cc
picked_plain (Err k) each c e = absurd cc

-- a SELECT that is understood, in whatever schema, is plain: it gives nothing back but its answer
pub select_plain : (s : Schema) (text : List ℕ) (q : Select) → IsReadAs text (written.Select q)
    → (c : Compiled) → understood s text ≡ Ok c → IsPlain (understood s text)
unfolding understood
select_plain s text q r c h = subst IsPlain (sym h) (go (misses_table (compiled s text)) h)
  where
    go : (b : Bool) → (if b then if_select (compiled listing_schema text) else compiled s text)
        ≡ Ok c → (c.returning ≡ None) × (c.formats ≡ [])
    go false e = compiled_plain s text q r c e
    go true e = picked_plain (compiled listing_schema text) (compiled_plain listing_schema text q r)
        c e

-- ---- the test of types

abbrev pub IsAccepted : Table → Query → Type 0
IsAccepted t q = (q.from ≡ inner t.tree end)
    × ((accepts_after [] q (Some (row_classes t ∷ []))
    && (is_count [] q.limit && is_count [] q.offset)) ≡ true)

pub program_is : (s : Schema) (name : List ℕ) (t : Table) (at : ℕ) (d : Draft) → IsAt s name t at
    → IsAccepted t (query_of d) → program s [] d ≡ Ok (record { lets = []; body = query_of d })
unfolding program
program_is s name t at d place accepted = rw (accepted.0, place.low, place.found, accepted.1) refl

-- ---- DELETE

picked_same : (s : Schema) (name : List ℕ) (t : Table) (at : ℕ) (p : Phrase) → IsAt s name t at
    → knows t p ≡ true → deleted s at t (Some (say p)) ≡ deleted (alone t) 0 t (Some (say p))
unfolding deleted picked tests
picked_same s name t at p place known =
    rw (lower_same s at t place.listed t.name [] false 700 p known (fresh 2 max_budget)) refl

delete_at : (s : Schema) (name : List ℕ) (test : Option Expr) (at : ℕ) (t : Table)
    → IsAt s name t at → delete s name test ≡ and_then (deleted s at t test)
    (λ d. and_then (program s [] d) (λ p. Ok (Delete at p)))
unfolding delete
delete_at s name test at t place = rw (place.named, place.listed) refl

pub deletes : (s : Schema) (text name : List ℕ) (t : Table) (at : ℕ) (p : Phrase) (d : Draft)
    → IsAt s name t at → IsReadAs text (written.Delete name (Some (say p)) []) → knows t p ≡ true
    → deleted (alone t) 0 t (Some (say p)) ≡ Ok d → IsAccepted t (query_of d)
    → Means s text (Delete at (record { lets = []; body = query_of d }))
unfolding timed returning shows command
deletes s text name t at p d place r known is accepted =
    means s text _ _ r refl (λ base. refl) (λ base. delete_at s name (Some (say p)) at t place
    ∙ rw (picked_same s name t at p place known, is, program_is s name t at d place accepted) refl)

-- ---- INSERT .. VALUES

pub inserts : (s : Schema) (text name : List ℕ) (t : Table) (at : ℕ) (columns : List Name)
    (rows : Rows) (source : Source) → IsAt s name t at → t.stamps.formats ≡ []
    → IsReadAs text (written.Insert conflict.Abort name columns rows [] [])
    → ((base : ℕ) → new_rows s t base columns rows ≡ Ok source) → Means s text (Insert at source)
unfolding timed returning shows command insert_or_abort insert
inserts s text name t at columns rows source place timeless r gives =
    means s text _ _ r (rw (place.named, place.listed, timeless) refl) (λ base. refl)
    (λ base. rw (place.named, place.listed, gives base) refl)
