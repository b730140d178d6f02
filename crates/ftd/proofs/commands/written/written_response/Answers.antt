use Rattle.std.proofs.Common.{◌∙◌}
use Rattle.ftd.proofs.Responses.{no_err, no_out, texts}
use Rattle.ftd.proofs.commands.written.written_response.Goals as goal

pub returns-in_default : goal.returns-in_default
returns-in_default c = c.bare_response.ensures
    ∙ no_out c.args.out.now c.args.err.now c.args.status c.in_default.ensures.cases.0

pub returns-in_default-from_utf8 : goal.returns-in_default-from_utf8
returns-in_default-from_utf8 c = c.bare_response-in_default-from_utf8.ensures
    ∙ no_err c.args.out.now c.args.err.now c.args.status c.in-Ok.ensures.cases.1
    c.in_default-from_utf8.ensures.cases.0

pub returns : goal.returns
returns c =
    let out = c.in-Ok.ensures.cases in
    let err = c.in-Ok-from_utf8.ensures.cases in
    let text = rw (out.0, err.0) at c.in_ok-text.ensures in
    rw (c.into_bytes.ensures.value, text) at c.json_response.ensures
    ∙ texts c.args.out.now c.args.err.now c.args.status out.1 err.1
