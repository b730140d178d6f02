use Rattle.std.proofs.Common.{◌≡◌, ◌≤◌, ◌+◌, ℕ, List, take, drop}
use Rattle.ftd_csv.specs.declared.entries.Content.{Content}
use Rattle.ftd_desk.specs.Desks.{IsStopped, held}
use Rattle.ftd_csv.specs.Lists.{IsListOf}
use Rattle.ftd_imports.specs.Outcomes.{tally}
use Rattle.ftd_csv.specs.Lists.{posts_of}
use Rattle.ftd_imports.specs.Imports.{Posts}
use Rattle.ftd_imports.proofs.posting.post_all.Given as goal

abbrev pub invariant-loop-place : goal.invariant-loop-place
invariant-loop-place g l = record {
  left : (records : List (ℕ × Content)) → IsListOf records l.list
      → l.left ≡ posts_of (drop l.place-index records);
  posts : (records : List (ℕ × Content)) → IsListOf records l.list
      → Posts (held g.S.Store l.fn.desk) (held g.S.Store l.desk) (take l.place-index records)
      l.fn.done l.done;
  grows : tally l.done ≤ tally l.fn.done + l.place-index;
  stopped : IsStopped l.fn.desk → IsStopped l.desk;
}
