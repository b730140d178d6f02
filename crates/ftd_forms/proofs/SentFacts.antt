-- The response to who sends a form, whether there was memory for it or not.
use Rattle.std.proofs.Common.{◌≡◌, ◌∙◌, ◌==◌, ℕ, List, Option, Result, Ok, Err, inl, inr}
use Rattle.std.specs.Prelude.{IfOk}
use Rattle.ftd_http.specs.Controls.{Typed}
use Rattle.ftd_http.specs.declared.status.Status.TheVariants.{BadRequest}
use Rattle.ftd_site.specs.declared.sent_forms.Outcome.{Outcome}
use Rattle.ftd_site.specs.declared.sent_forms.Outcome.TheVariants.{Bad}
use Rattle.ftd_connections.specs.Responses.{Said, said_of}
use Rattle.ftd_connections.specs.declared.response.Response.{Response}
use Rattle.ftd_verbs.specs.declared.field.Field.{Field}
use Rattle.ftd_verbs.specs.declared.rows.Verb.{Verb}
use Rattle.ftd_forms.specs.Sent.{HasCome, IsSentPage, TellsBad, TellsEnd, Written, status_for}
use Rattle.ftd_forms.specs.Sent.{written_in}
use Rattle.ftd_forms.specs.Shown.{made_or_failed}

pub ends : {E : Type 0} (today : Option ℕ) (verb : Verb) (controls : List Typed) (end : Written)
    (come : Outcome) (made : Result Response E) (said : Said)
    → HasCome (end.status == 0) (written_in end.out) (written_in end.err) come
    → IfOk made (λ response. IsSentPage today verb controls (status_for end.status) come
    (said_of response))
    → said ≡ made_or_failed made → TellsEnd today verb controls end said
ends today verb controls end come (Ok response) said has (filled, pairs, is) so =
    inl (come, has, (filled, pairs, so ∙ is))
ends today verb controls end come (Err e) said has none so = inr so

pub told_bad : {E : Type 0} (today : Option ℕ) (verb : Verb) (controls : List Typed)
    (field : Field) (made : Result Response E) (said : Said)
    → IfOk made (λ response. IsSentPage today verb controls BadRequest (Bad field)
    (said_of response))
    → said ≡ made_or_failed made → TellsBad today verb controls field said
told_bad today verb controls field (Ok response) said (filled, pairs, is) so =
    inl (filled, pairs, so ∙ is)
told_bad today verb controls field (Err e) said none so = inr so
