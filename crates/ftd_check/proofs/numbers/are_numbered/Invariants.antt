use Rattle.std.proofs.Common.{◌≡◌, ℕ, nat_eq, unwrap_or, take}
use Rattle.std.specs.HashMap.{get}
use Rattle.ftd_check.specs.Numbers.{AreNumbered, count_at}
use Rattle.ftd_check.proofs.numbers.are_numbered.Given as goal

abbrev pub invariant-loop-row : goal.invariant-loop-row
invariant-loop-row l = record {
  counted : (key : ℕ) → unwrap_or (get nat_eq l.counts key) 0
      ≡ count_at key (take l.row-index l.rows);
  numbered : AreNumbered (take l.row-index l.rows);
}
