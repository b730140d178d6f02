use Rattle.std.proofs.Common.{◌≡◌, ◌∙◌, ap, refl, ℕ}
use Rattle.std.specs.Global.{Vec}
use Rattle.ftd_shell.specs.Shells.{said_in}
use Rattle.ftd.specs.Written.{written_response}
use Rattle.ftd.proofs.Responses.{at_err, if_ok}
use Rattle.ftd.proofs.commands.served.body_response.Goals as goal

pub returns-clause-ok : goal.returns-clause-ok
returns-clause-ok g c =
    let end = c.answer_body-end.result in
    let out : c.deref.result.now ≡ said_in end.out =
    c.deref.ensures.value ∙ ap (λ (bytes : Vec ℕ). bytes.items) c.into_inner.ensures in
    let err : c.deref-2.result.now ≡ said_in end.err =
    c.deref-2.ensures.value ∙ ap (λ (bytes : Vec ℕ). bytes.items) c.into_inner-2.ensures in
    if_ok c.written_response.result
    (λ response is. record {
      end = end;
      answers = c.answer_body-end.ensures.answers;
      is = rw (out, err) at is;
    })
    c.written_response.ensures

pub returns-clause-err : goal.returns-clause-err
returns-clause-err g c =
    let end = c.answer_body-end.result in
    at_err c.written_response.result (
      written_response (said_in end.out) (said_in end.err) end.status,
      record { end = end; answers = c.answer_body-end.ensures.answers; is = refl },
    )
