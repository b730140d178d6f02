use Rattle.std.proofs.Common.{◌≡◌, ◌⊎◌, ◌<◌, ℕ, List, length, take, inl, inr, ap, sym, ◌∙◌, arith}
use Rattle.std.proofs.Common.{subst, min, max}
use Rattle.std.proofs.lemmas.Grind.{common_steps}
use Rattle.ftd_rules.specs.declared.Obligation.{Obligation}
use Rattle.ftd_rules.specs.Lists.{Has}
use Rattle.ftd_store.proofs.Replaced.{all_taken}
use Rattle.ftd_store.proofs.Items.{has_at, has_more}
use Rattle.ftd_repairs.proofs.comparing.reach.Goals as goal

-- the lesser and the greater of two are one of them
is_min : (a b m : ℕ) → m ≡ min a b → (m ≡ a) ⊎ (m ≡ b)
is_min a b m is = grind (arith, common_steps, is)

is_max : (a b m : ℕ) → m ≡ max a b → (m ≡ a) ⊎ (m ≡ b)
is_max a b m is = grind (arith, common_steps, is)

pub loop-row-preserved : goal.loop-row-preserved
loop-row-preserved c =
    let rows : List Obligation = c.args.rows.now in
    let x : Obligation = c.row-item.result in
    let i : ℕ = c.loop-row.row-index in
    let some : i < length rows = c.loop-row-test.true in
    let has : Has rows x = has_at rows i x some c.row-item.is in
    let so_far = c.loop-row.invariant in
    let first : c.min-from.result ≡ min c.loop-row.from x.first = grind (
      arith,
      common_steps,
      c.min-from.ensures,
    ) in
    let last : c.max-to.result ≡ max c.loop-row.to x.last = grind (
      arith,
      common_steps,
      c.max-to.ensures,
    ) in
    record {
      first = elim (is_min c.loop-row.from x.first c.min-from.result first) [
        | inl old ↦ (
          so_far.first.0,
          so_far.first.1,
          old
              ∙ so_far.first.2,
        )
        | inr new ↦ (x, has, new)
      ];
      last = elim (is_max c.loop-row.to x.last c.max-to.result last) [
        | inl old ↦ (
          so_far.last.0,
          so_far.last.1,
          old
              ∙ so_far.last.2,
        )
        | inr new ↦ (x, has, new)
      ];
      within = λ o k. elim (has_more rows i x o some c.row-item.is k) [
        | inl before ↦ (let w = so_far.within o before in let w0 = w.0 in let w1 = w.1 in
            (omega arith, omega arith))
        | inr here ↦
            (let own_first : o.first ≡ x.first = ap (λ (z : Obligation). z.first) here in
            let own_last : o.last ≡ x.last = ap (λ (z : Obligation). z.last) here in
            (omega arith, omega arith))
      ];
    }

pub returns : goal.returns
returns c =
    let rows : List Obligation = c.args.rows.now in
    let i : ℕ = c.loop-row.row-index in
    let end = c.loop-row-test.false in
    let all : take i rows ≡ rows = all_taken rows i (omega arith) in
    let so_far = c.loop-row.invariant in
    inl (record {
      first = so_far.first.0;
      has_first = so_far.first.1;
      from_is = so_far.first.2;
      last = so_far.last.0;
      has_last = so_far.last.1;
      to_is = so_far.last.2;
      within = λ o has. so_far.within o (subst (λ (os : List Obligation). Has os o) (sym all) has);
    })
