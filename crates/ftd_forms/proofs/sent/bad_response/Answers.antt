use Rattle.ftd_forms.proofs.SentFacts.{told_bad}
use Rattle.ftd_forms.proofs.sent.bad_response.Goals as goal

pub returns : goal.returns
returns c =
    told_bad _ _ _ _ c.sent_page-made.result _ c.sent_page-made.ensures c.or_failed.ensures
