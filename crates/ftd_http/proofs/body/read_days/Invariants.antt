use Rattle.std.proofs.Common.{◌≡◌, drop}
use Rattle.serde_json.specs.View.{items_view}
use Rattle.ftd_days.proofs.Wholes.{on_front}
use Rattle.ftd_http.specs.Bodies.{days_in}
use Rattle.ftd_http.proofs.body.read_days.Given as goal

abbrev pub invariant-loop-item : goal.invariant-loop-item
invariant-loop-item l = on_front l.days.items (days_in (items_view (drop l.item-index l.items)))
    ≡ days_in (items_view l.items)
