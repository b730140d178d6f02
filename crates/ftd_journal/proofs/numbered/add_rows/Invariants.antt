use Rattle.std.proofs.Common.{◌≡◌, ◌++◌, take}
use Rattle.std.specs.Prelude.{flat_map}
use Rattle.ftd_journal.specs.Parts.{with_void}
use Rattle.ftd_journal.proofs.numbered.add_rows.Given as goal

abbrev pub invariant-loop-row : goal.invariant-loop-row
invariant-loop-row g l =
    let of = g.T.Numbered in
    l.requests.items ≡ l.fn.requests.items
    ++ flat_map (with_void (of.request_of l.name) of.is_voided (of.void_of l.name))
    (take l.row-index l.rows)
