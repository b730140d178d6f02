use Rattle.std.proofs.Common.{◌≡◌, ◌<◌, ◌+◌, ◌∙◌, ◌++◌, ◌∷◌, [], ℕ, List, length, take, sym, ap}
use Rattle.std.proofs.lemmas.List.{map-append, take_more}
use Rattle.std.proofs.Common.{Bor}
use Rattle.ftd_rules.specs.declared.Obligation.{Obligation}
use Rattle.ftd_imports.specs.Added.{added_then, changes_in}
use Rattle.ftd_imports.specs.declared.changes.AccountChange.{AccountChange}
use Rattle.ftd_imports.proofs.StillAdded.{still_more}
use Rattle.ftd_imports.proofs.added.still_added.Goals as goal

pub loop-change-preserved : goal.loop-change-preserved
loop-change-preserved c =
    let own : List (Bor AccountChange) = c.args.own.now in
    let i : ℕ = c.loop-change.change-index in
    let x : Bor AccountChange = c.change-item.result in
    let some : i < length own = c.loop-change-test.true in
    let now = λ (it : Bor AccountChange). it.now in
    let before = take i own in
    let more : changes_in (take (i + 1) own) ≡ changes_in before ++ x.now ∷ [] =
    ap changes_in (take_more own i x some
    ∙ ap (λ (z : Bor AccountChange). before ++ z ∷ []) (sym c.change-item.is))
    ∙ map-append now before (x ∷ []) in
    let rows = rw c.deref.ensures.value at c.in_ok-rows.ensures in
    rw more (rows ∙ ap (λ (os : List Obligation). added_then os x.now) c.loop-change.invariant
    ∙ sym (still_more x.now (changes_in before)))
