-- What becomes of the rows, by the calls of a request one after the other.
use Rattle.std.proofs.Common.{◌≡◌, ◌∙◌, false, Ok, sym, subst, arith}
use Rattle.std.proofs.lemmas.Bool.{true≢false}
use Rattle.sqlite.specs.Store as store
use Rattle.ftd_sql.specs.Standing.{Tables, Stands, Becomes}
use Rattle.ftd_store.specs.declared.tx.Tx.{Tx}
use Rattle.ftd_store.specs.Seen.{shown}
use Rattle.ftd_store.specs.Frame.{Calls, Reads, Rewrites}
use Rattle.ftd_store.proofs.Going.{goes_on, then_goes}
use Rattle.ftd_machine.specs.Checks.{Answer}
use Rattle.ftd_machine.specs.Laws.{is_change}
use Rattle.ftd_posting.specs.Repaired.{Becoming}

module _ {S : Type 0} {g : store.Ghosts S} (So : Answer → Tables → Tables → Type 0) where
  -- a check decides, and nothing changes
  pub becomes_none : {A : Type 0} {old new : Tx S} {x : A} {answer : Answer}
      {Fact : A → Tables → Type 0} → is_change answer ≡ false → Reads g old new (Ok x) Fact
      → Calls g old new (Ok answer) (λ given before after. Becoming So given before.now after.now)
  becomes_none {old = old} {new = new} {x = x} {answer = answer} quiet r = record {
    frame = goes_on g old new x answer r.frame;
    does = λ clean t stands change. absurd (true≢false (sym change ∙ quiet));
  }

  -- the rows become others, by what was read before
  pub becomes_turned : {A B : Type 0} {old mid new : Tx S} {x : A} {y : B}
      {Fact : A → Tables → Type 0} {Turn : B → Tables → Tables → Type 0} (answer : Answer)
      → Reads g old mid (Ok x) Fact → Rewrites g mid new (Ok y) Turn
      → ((t u : Tables) → Fact x t → Turn y t u → So answer t u) → Calls g old new (Ok answer)
      (λ given before after. Becoming So given before.now after.now)
  becomes_turned {new = new} answer r w so = record {
    frame = then_goes answer r.frame w.frame;
    does = λ clean t stands change.
        let told = r.does (omega (arith, w.frame.crash.clean)) t stands in
        let same = told.1.0.now_is in
        let made = w.does clean t (subst (λ db. Stands db t) (sym same) stands) in (
          made.0,
          so t made.0 told.0 made.1,
          subst (λ db. Becomes db (shown g new).now made.0) same
              made.2,
        );
  }
