use Rattle.std.proofs.Common.{◌≡◌, ◌<◌, ◌^◌, ◌+◌, length}
use Rattle.ftd_csv.specs.Places.{CanAdvance, rows_after}
use Rattle.ftd_csv.proofs.reading.Records.count.Given as goal

-- the records that were counted and those that are left are all of them
abbrev pub invariant-loop-self : goal.invariant-loop-self
invariant-loop-self l = record {
  can : CanAdvance l.self;
  counted : l.count + length (rows_after l.self) ≡ length (rows_after l.fn.self);
  fits : length (rows_after l.fn.self) < 2 ^ 31;
}

abbrev pub decreases-loop-self : goal.decreases-loop-self
decreases-loop-self l = length (rows_after l.self)
