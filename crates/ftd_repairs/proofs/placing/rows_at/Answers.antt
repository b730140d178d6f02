use Rattle.std.proofs.Common.{◌≡◌, ◌<◌, ◌∙◌, ℕ, Bool, true, false, List, [], ◌∷◌, ◌++◌, append-nil}
use Rattle.std.proofs.Common.{take, length, ap, sym, arith, ◌+◌}
use Rattle.std.specs.Prelude.{filter}
use Rattle.std.proofs.lemmas.List.Elements.{filter-append}
use Rattle.ftd_rules.specs.declared.Obligation.{Obligation}
use Rattle.ftd_rules.proofs.Members.{filter_in, filter_out}
use Rattle.ftd_store.proofs.Items.{taken}
use Rattle.ftd_store.proofs.Replaced.{all_taken}
use Rattle.ftd_repairs.specs.Placing.{begins}
use Rattle.ftd_repairs.proofs.placing.rows_at.Goals as goal
use Rattle.ftd_repairs.proofs.placing.rows_at.Goals.{then-begins+in_ok-push, else-begins}

-- one row more passes the test, or does not
passes : (p : Obligation → Bool) (rows : List Obligation) (x : Obligation) → p x ≡ true
    → filter p (rows ++ x ∷ []) ≡ filter p rows ++ x ∷ []
passes p rows x given = filter-append p rows (x ∷ []) ∙ ap (λ l. filter p rows ++ l)
    (filter_in p x [] given)

fails : (p : Obligation → Bool) (rows : List Obligation) (x : Obligation) → p x ≡ false
    → filter p (rows ++ x ∷ []) ≡ filter p rows
fails p rows x given = filter-append p rows (x ∷ [])
    ∙ (ap (λ l. filter p rows ++ l) (filter_out p x [] given) ∙ append-nil (filter p rows))

pub loop-row-preserved : goal.loop-row-preserved
loop-row-preserved c =
    let rows : List Obligation = c.args.rows.now in
    let x : Obligation = c.row-item.result in
    let i : ℕ = c.loop-row.row-index in
    let p : Obligation → Bool = begins c.args.place c.args.patch.now.from c.args.patch.now.to in
    let some : i < length rows = c.loop-row-test.true in
    let more : take (i + 1) rows ≡ take i rows ++ x ∷ [] = taken rows i x some c.row-item.is in
    elim c.if-begins.branch [
      | then-begins+in_ok-push w ↦
          rw (w.some-is, w.in_ok-push.ensures.items) (ap (λ l. l ++ x ∷ []) c.loop-row.invariant
          ∙ sym (ap (filter p) more ∙ passes p (take i rows) x (sym c.begins.ensures
          ∙ w.if-begins.true)))
      | else-begins w ↦
          rw w.some-is (c.loop-row.invariant
          ∙ sym (ap (filter p) more ∙ fails p (take i rows) x (sym c.begins.ensures
          ∙ w.if-begins.false)))
    ]

pub returns : goal.returns
returns c =
    let rows : List Obligation = c.args.rows.now in
    let i : ℕ = c.loop-row.row-index in
    let p : Obligation → Bool = begins c.args.place c.args.patch.now.from c.args.patch.now.to in
    let end = c.loop-row-test.false in
    c.loop-row.invariant ∙ ap (filter p) (all_taken rows i (omega arith))
