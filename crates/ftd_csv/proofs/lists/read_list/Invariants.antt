use Rattle.std.proofs.Common.{◌≡◌, ◌≤◌, ◌+◌, ◌++◌, ℕ, List, length}
use Rattle.ftd_csv.specs.Places.{CanAdvance, records_left, rows_after}
use Rattle.ftd_csv.specs.declared.entries.Content.{Content}
use Rattle.ftd_csv.specs.Lists.{IsListOf}
use Rattle.ftd_csv.proofs.lists.read_list.Given as goal

-- the records that were taken, and those that are left
abbrev pub invariant-loop : goal.invariant-loop
invariant-loop l = record {
  can : CanAdvance l.records;
  there : l.count ≤ l.counter + length (rows_after l.records);
  taken : (taken : List (ℕ × Content)) × (records_left l.fn.records ≡ taken ++ records_left
      l.records) × (length taken ≡ l.counter) × IsListOf taken l.list;
}
