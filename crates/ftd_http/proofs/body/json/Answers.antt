use Rattle.std.proofs.Common.{sym}
use Rattle.ftd_http.proofs.BodyFacts.{json-none, json-read}
use Rattle.ftd_http.proofs.body.json.Goals as goal

pub returns-in-Ok : goal.returns-in-Ok
returns-in-Ok c = sym (json-read c.args.body.now _ c.in-Ok.ensures.ok.0 c.in-Ok.ensures.ok.1)

pub returns-in_default : goal.returns-in_default
returns-in_default c =
    sym (json-none c.args.body.now
    (c.in-Err.ensures.err (λ m. c.in_default.not-Memory (c.classify.ensures.memory.1 m))))
