use Rattle.std.proofs.Common.{◌+◌, ap, option_map}
use Rattle.ftd_http.proofs.RequestFacts.{place_said}
use Rattle.ftd_http.proofs.message_fields.part_of.Goals as goal

pub returns-in-Some : goal.returns-in-Some
returns-in-Some c =
    ap (option_map (λ place. place + 1))
    (place_said c.row.result c.args.verb c.args.field _ c.row.ensures c.in-Some.ensures)

pub returns-in-None : goal.returns-in-None
returns-in-None c =
    ap (option_map (λ place. place + 1))
    (place_said c.row.result c.args.verb c.args.field _ c.row.ensures c.in-None.ensures)
