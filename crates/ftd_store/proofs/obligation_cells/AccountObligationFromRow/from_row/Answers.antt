use Rattle.std.proofs.Common.{◌≡◌, length, [], ◌∷◌, arith}
use Rattle.sqlite.specs.declared.types.Value.{Value}
use Rattle.sqlite.specs.Order.{Row}
use Rattle.sqlite_value.specs.Order.{column}
use Rattle.ftd_store.proofs.obligation_cells.AccountObligationFromRow.from_row.Goals as goal

six_cells : (row : Row) (u v w x y z : Value) → length row ≡ 6 → column row 0 ≡ u → column row 1 ≡ v
    → column row 2 ≡ w → column row 3 ≡ x → column row 4 ≡ y → column row 5 ≡ z
    → row ≡ u ∷ v ∷ w ∷ x ∷ y ∷ z ∷ []
six_cells (a ∷ b ∷ c ∷ d ∷ e ∷ f ∷ []) u v w x y z six p q r s t o =
    rw (← p, ← q, ← r, ← s, ← t, ← o)
six_cells row u v w x y z six p q r s t o = absurd (omega (arith, six))

pub returns-clause-value : goal.returns-clause-value
returns-clause-value c =
    six_cells c.args.row.now _ _ _ _ _ _ (omega arith) c.in_ok-account.ensures.ok.1
    c.in_ok-first.ensures.ok.1 c.in_ok-last.ensures.ok.1 c.in_ok-rule.ensures.ok.1
    c.in_ok-cents.ensures.ok.1 c.in_ok-due.ensures.ok.1
