use Rattle.std.proofs.Common.{◌≡◌, ◌∙◌, ap, ℕ}
use Rattle.std.specs.Global.{Vec}
use Rattle.ftd_forms.specs.Sent.{written_in}
use Rattle.ftd_forms.proofs.SentFacts.{ends}
use Rattle.ftd_forms.proofs.sent.end_response.Goals as goal

pub returns : goal.returns
returns c =
    let out : c.deref.result.now ≡ written_in c.args.end.out =
    c.deref.ensures.value ∙ ap (λ (bytes : Vec ℕ). bytes.items) c.into_inner-out.ensures in
    let err : c.deref-2.result.now ≡ written_in c.args.end.err =
    c.deref-2.ensures.value ∙ ap (λ (bytes : Vec ℕ). bytes.items) c.into_inner-err.ensures in
    ends _ _ _ c.args.end c.outcome_of-outcome.result c.sent_page-made.result _
    (rw (out, err) at c.outcome_of-outcome.ensures)
    (rw c.status_for.ensures at c.sent_page-made.ensures) c.or_failed.ensures
