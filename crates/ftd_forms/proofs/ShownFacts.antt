-- The response to who asks for a form, whether there was memory for it or not.
use Rattle.std.proofs.Common.{◌≡◌, ◌∙◌, ℕ, List, Option, Result, Ok, Err, true}
use Rattle.std.specs.Prelude.{IfOk}
use Rattle.sqlite.specs.Store as store
use Rattle.ftd_desk.specs.Desks.{held}
use Rattle.ftd_desk.specs.declared.desk.Desk.{Desk}
use Rattle.ftd_http.specs.declared.ask.Payable.{Payable}
use Rattle.ftd_site.specs.Forms.{has_form}
use Rattle.ftd_connections.specs.Responses.{Said, said_of}
use Rattle.ftd_connections.specs.declared.response.Response.{Response}
use Rattle.ftd_verbs.specs.declared.rows.Verb.{Verb}
use Rattle.ftd_forms.specs.Given.{FindsNext, given}
use Rattle.ftd_forms.specs.Shown.{IsFormPage, ShowsForm, known_for, made_or_failed, shown}
use Rattle.ftd_forms.specs.Shown.{unshown}

pub shows : {S E : Type 0} (g : store.Ghosts S) (today : Option ℕ) (old new : Desk S)
    (verb : Verb) (account : Option (List ℕ)) (payable : Option Payable) (number : Option ℕ)
    (made : Result Response E) (said : Said) → has_form verb ≡ true
    → FindsNext (held g old) (held g new) verb account number
    → IfOk made (λ response. IsFormPage today verb
    (given (known_for today number account payable)) (said_of response))
    → said ≡ made_or_failed made → ShowsForm g today old new verb account payable said
shows g today old new verb account payable number (Ok response) said has finds
    (filled, pairs, is) so =
    shown has number finds (filled, pairs, so ∙ is)
shows g today old new verb account payable number (Err e) said has finds none so =
    unshown has number finds so
