-- Where 20 obligations or fewer were added, each has its line.
use Rattle.std.proofs.Common.{◌≡◌, ◌≤◌, List, length, sym}
use Rattle.std.specs.List.{flat_map}
use Rattle.std.proofs.lemmas.List.{append-nil, drop_all, take_all}
use Rattle.ftd_rules.specs.declared.Obligation.{Obligation}
use Rattle.ftd_replies.specs.Added.{added_note, added_notes}

pub few_added : (rows : List Obligation) → length rows ≤ 20
    → flat_map added_note rows ≡ added_notes rows
unfolding added_notes
few_added rows few =
    rw (take_all 20 rows few, drop_all 20 rows few) (sym (append-nil (flat_map added_note rows)))
