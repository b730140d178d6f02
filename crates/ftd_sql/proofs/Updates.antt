-- What an UPDATE means, wherever the table stands.
use Rattle.std.proofs.Common.{◌≡◌, ℕ, List, [], ◌∷◌, ◌++◌, ◌∙◌, map, Option, Some, None, Ok, Err}
use Rattle.std.proofs.Common.{refl, ap, true, false, slice_get}
use Rattle.std.proofs.lemmas.Bool.{and_parts}
use Rattle.sqlite.specs.Schema.{Schema}
use Rattle.sqlite.specs.Table.{Table}
use Rattle.sqlite.specs.Command.TheVariants.{Update}
use Rattle.sqlite_sql.specs.Term.{Term, col}
use Rattle.sqlite_ast.specs.declared.Expr.{Expr}
use Rattle.sqlite_ast.specs.declared.Statement.TheVariants as written
use Rattle.sqlite_draft.specs.declared.query.Draft.{Draft}
use Rattle.sqlite_draft.specs.Query.{query_of}
use Rattle.sqlite_resolve.specs.declared.state.State.{State}
use Rattle.sqlite_resolve.specs.Lowering.{Checked, and_then, ◌>>=◌, fresh, max_budget}
use Rattle.sqlite_resolve.specs.Scope.{Name, Context}
use Rattle.sqlite_resolve.specs.Body.{tests}
use Rattle.sqlite_resolve.specs.Expr.{lower}
use Rattle.sqlite_resolve.specs.Write.{with_place, sets_from, sets, assigned, picked, row}
use Rattle.sqlite_resolve.specs.Write.{updated_in, updated}
use Rattle.sqlite_resolve.specs.Compile.{timed, returning, shows, command, update}
use Rattle.sqlite_resolve.specs.Program.{program}
use Rattle.ftd_sql.specs.Places.{IsAt}
use Rattle.ftd_sql.proofs.Phrase.{Phrase, say, knows, here, alone, Alike, bind_same, lower_same}
use Rattle.ftd_sql.specs.TextKinds.{IsReadAs}
use Rattle.ftd_sql.proofs.Meaning.{IsAccepted, Means, means, program_is}
use Rattle.ftd_sql.proofs.Selects.{all_known}

abbrev pub setting : Phrase × Name → Name × Expr
setting x = (x.1, say x.0)

each_same : {A B : Type 0} (r : Checked A) (f g : A → Checked B) → ((a : A) → f a ≡ g a)
    → and_then r f ≡ and_then r g
each_same (Ok a) f g same = same a
each_same (Err e) f g same = refl

module _ (s : Schema) (at : ℕ) (t : Table) (listed : slice_get s.tables at ≡ Some t) where
  abbrev cx : Context
  cx = here s at t.name [] false

  abbrev dx : Context
  dx = here (alone t) 0 t.name [] false

  sets_same : (done : List ℕ × List Term) (all : List (Phrase × Name)) → all_known t all ≡ true
      → Alike (sets_from cx t done (map setting all)) (sets_from dx t done (map setting all))
  sets_same done [] known st = refl
  sets_same done (x ∷ more) known st =
      let next = λ (k : Context) (p : List ℕ) (v : Term). sets_from k t (p, done.1 ++ v ∷ [])
      (map setting more) in
      each_same (with_place t done.0 x.1) (λ p. (lower cx (say x.0) >>= next cx p) st)
      (λ p. (lower dx (say x.0) >>= next dx p) st)
      (λ p. bind_same (lower cx (say x.0)) (lower dx (say x.0)) (next cx p) (next dx p)
      (lower_same s at t listed t.name [] false 700 x.0
      (and_parts (knows t x.0) (all_known t more) known).0)
      (λ v. sets_same (p, done.1 ++ v ∷ []) more
      (and_parts (knows t x.0) (all_known t more) known).1)
      st)

  assigned_same : (all : List (Phrase × Name)) → all_known t all ≡ true → (st : State)
      → assigned cx t (map setting all) st ≡ assigned dx t (map setting all) st
  unfolding assigned sets
  assigned_same all known st = rw (sets_same ([], []) all known st) refl

  picked_same : (project : List Term) (p : Phrase) → knows t p ≡ true → (st : State)
      → picked cx t project (Some (say p)) st ≡ picked dx t project (Some (say p)) st
  unfolding picked tests
  picked_same project p known st = rw (lower_same s at t listed t.name [] false 700 p known st) refl

  pub updated_same : (all : List (Phrase × Name)) (p : Phrase) → all_known t all ≡ true
      → knows t p ≡ true → updated s at t (map setting all) (Some (say p)) ≡ updated (alone t) 0 t
      (map setting all) (Some (say p))
  unfolding updated updated_in
  updated_same all p known_sets known =
      let rest = λ (k : Context) (r : (List ℕ × List Term) × State). and_then
      (row t None r.0.0 (col 1 0 ∷ []) r.0.1)
      (λ project. and_then (picked k t project (Some (say p)) r.1) (λ d. Ok d.0)) in
      ap (λ r. and_then r (rest cx)) (assigned_same all known_sets (fresh 2 max_budget))
      ∙ each_same (assigned dx t (map setting all) (fresh 2 max_budget)) (rest cx) (rest dx)
      (λ r. each_same (row t None r.0.0 (col 1 0 ∷ []) r.0.1)
      (λ project. and_then (picked cx t project (Some (say p)) r.1) (λ d. Ok d.0))
      (λ project. and_then (picked dx t project (Some (say p)) r.1) (λ d. Ok d.0))
      (λ project. ap (λ x. and_then x (λ d. Ok d.0)) (picked_same project p known r.1)))

update_at : (s : Schema) (name : List ℕ) (all : List (Name × Expr)) (test : Option Expr) (at : ℕ)
    (t : Table) → IsAt s name t at
    → update s name all test ≡ and_then (updated s at t all test)
    (λ d. and_then (program s [] d) (λ p. Ok (Update at p)))
unfolding update
update_at s name all test at t place = rw (place.named, place.listed) refl

pub updates : (s : Schema) (text name : List ℕ) (t : Table) (at : ℕ) (all : List (Phrase × Name))
    (p : Phrase) (d : Draft) → IsAt s name t at
    → IsReadAs text (written.Update name (map setting all) (Some (say p)) [])
    → all_known t all ≡ true → knows t p ≡ true → updated (alone t) 0 t (map setting all)
    (Some (say p)) ≡ Ok d → IsAccepted t (query_of d)
    → Means s text (Update at (record { lets = []; body = query_of d }))
unfolding timed returning shows command
updates s text name t at all p d place r known_sets known is accepted =
    means s text _ _ r refl (λ base. refl) (λ base. update_at s name (map setting all)
    (Some (say p)) at t place ∙ rw (
      updated_same s at t place.listed all p known_sets known,
      is,
      program_is s name t at d place accepted,
    ) refl)
