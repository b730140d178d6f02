use Rattle.std.proofs.Common.{◌<◌, ℕ, List, length, sym, ◌∙◌}
use Rattle.std.proofs.lemmas.Bool.{false≢true}
use Rattle.ftd_rules.specs.declared.Obligation.{Obligation}
use Rattle.ftd_rules.specs.Lists.{Has}
use Rattle.ftd_repairs.proofs.Differing.{those_more, those_same}
use Rattle.ftd_repairs.proofs.comparing.only_in.Goals as goal
use Rattle.ftd_repairs.proofs.comparing.only_in.Goals.{then-not-is_among+in_ok-push}
use Rattle.ftd_repairs.proofs.comparing.only_in.Goals.{else-not-is_among}

pub loop-row-preserved : goal.loop-row-preserved
loop-row-preserved c rise =
    let rows : List Obligation = c.args.rows.now in
    let others : List Obligation = c.args.others.now in
    let first_of : Obligation → ℕ = λ o. o.first in
    let Apart : Obligation → Type 0 = λ o. Has others o → ⊥ in
    let x : Obligation = c.row-item.result in
    let i : ℕ = c.loop-row.row-index in
    let some : i < length rows = c.loop-row-test.true in
    let so_far = c.loop-row.invariant rise in
    elim c.if-not-is_among.branch [
      | then-not-is_among+in_ok-push w ↦
          (let other : Has others x → ⊥ = λ has. false≢true (sym w.if-not-is_among.true
          ∙ c.is_among.ensures.1 has) in
          rw (w.only-is, w.in_ok-push.ensures.items)
          (those_more first_of Apart rows c.loop-row.only.items i x rise some c.row-item.is other
          so_far))
      | else-not-is_among w ↦
          (let among : Has others x = c.is_among.ensures.0 w.if-not-is_among.false in
          rw w.only-is (those_same first_of Apart rows c.loop-row.only.items i x some c.row-item.is
          (λ other. other among) so_far))
    ]
