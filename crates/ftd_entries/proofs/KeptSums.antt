-- Sums over the rows that a test keeps.
use Rattle.std.proofs.Common.{◌≡◌, ℕ, pos, cond, not, Bool, true, false, refl}
use Rattle.std.specs.Ordering.{int_eq}
use Rattle.ftd_store.specs.Cells.{flag_number}

pub none_of : (b : Bool) (n : ℕ) → n ≡ 0 → cond b n 0 ≡ 0
none_of true n is = is
none_of false n is = refl

-- a row that is not void
pub live_cell : (voided : Bool) → int_eq (flag_number voided) (pos 0) ≡ not voided
live_cell true = refl
live_cell false = refl
