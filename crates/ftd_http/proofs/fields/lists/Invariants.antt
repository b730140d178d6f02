use Rattle.std.proofs.Common.{◌≡◌, length}
use Rattle.ftd_http.specs.Fields.{lists}
use Rattle.ftd_http.proofs.fields.lists.Given as goal

abbrev pub invariant-words : goal.invariant-words
invariant-words l = lists l.word l.list ≡ lists l.word l.rest

abbrev pub decreases-words : goal.decreases-words
decreases-words l = length l.rest
