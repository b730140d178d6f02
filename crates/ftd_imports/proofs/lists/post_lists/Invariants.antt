use Rattle.std.proofs.Common.{◌≡◌, ◌≤◌, ◌+◌, ◌-◌, ◌++◌, ℕ, List, length}
use Rattle.ftd_csv.specs.Places.{CanAdvance, records_left}
use Rattle.ftd_csv.specs.declared.entries.Content.{Content}
use Rattle.ftd_desk.specs.Desks.{held}
use Rattle.ftd_imports.specs.Outcomes.{tally}
use Rattle.ftd_imports.specs.Imports.{Posts}
use Rattle.ftd_imports.proofs.lists.post_lists.Given as goal

-- the records that were passed are posted, and these are left
abbrev pub invariant-loop-told : goal.invariant-loop-told
invariant-loop-told g l = record {
  can : CanAdvance l.records;
  passed : (passed : List (ℕ × Content)) × (records_left l.fn.records ≡ passed ++ records_left
      l.records)
      × Posts (held g.S.Store l.fn.desk) (held g.S.Store l.desk) passed l.fn.done l.done
      × (l.told ≡ length passed);
  grows : tally l.done ≤ tally l.fn.done + l.told;
}

abbrev pub decreases-loop-told : goal.decreases-loop-told
decreases-loop-told g l = l.all - l.told
