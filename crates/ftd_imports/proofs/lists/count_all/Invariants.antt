use Rattle.std.proofs.Common.{◌≡◌, ◌≤◌, ◌+◌, ℕ, List, length, take, drop}
use Rattle.std.specs.Prelude.{vec_len, vec_capacity}
use Rattle.std.specs.List.{filter}
use Rattle.ftd_csv.specs.declared.entries.Content.{Content}
use Rattle.ftd_csv.specs.Lists.{IsListOf, has_post}
use Rattle.ftd_imports.specs.Outcomes.{tally}
use Rattle.ftd_csv.specs.Lists.{posts_of}
use Rattle.ftd_imports.proofs.Counting.{CountsSome}
use Rattle.ftd_imports.proofs.lists.count_all.Given as goal

abbrev pub invariant-loop-place : goal.invariant-loop-place
invariant-loop-place l = record {
  some : (records : List (ℕ × Content)) → IsListOf records l.list
      → CountsSome l.fn.done (take l.place-index records) l.answers l.left l.done;
  posts : (records : List (ℕ × Content)) → IsListOf records l.list
      → l.posts ≡ posts_of (drop l.place-index records);
  left : length l.left ≡ length (filter has_post (drop l.place-index l.places));
  room : vec_len l.done.notes + length l.places ≤ vec_capacity l.done.notes + l.place-index;
  grows : tally l.done ≤ tally l.fn.done + l.place-index;
}
