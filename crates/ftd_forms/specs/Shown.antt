-- The response to who asks for forms.
use Rattle.std.specs.Prelude.{◌≡◌, ℕ, false, true, List, [], map, Option, Result, Err, Ok}
use Rattle.std.specs.Prelude.{unwrap_or}
use Rattle.sqlite.specs.Store as store
use Rattle.ftd_desk.specs.Desks.{held}
use Rattle.ftd_desk.specs.declared.desk.Desk.{Desk}
use Rattle.ftd_http.specs.declared.status.Status.TheVariants as status
use Rattle.ftd_site.specs.Controls.{pair_of}
use Rattle.ftd_site.specs.FormLists.{form_list}
use Rattle.ftd_site.specs.Forms.{form_page, has_form}
use Rattle.ftd_site.specs.declared.controls.Filled.{Filled}
use Rattle.ftd_verbs.specs.declared.rows.Verb.{Verb}
use Rattle.ftd_server.specs.Replying.{server_frame}
use Rattle.ftd_connections.specs.Responses.{Said, bare, page, said_of}
use Rattle.ftd_connections.specs.declared.response.Response.{Response}
use Rattle.ftd_http.specs.declared.ask.Payable.{Payable}
use Rattle.ftd_forms.specs.Given.{FindsNext, Known, given}

-- the page that lists forms, on the day of today, if it is known
abbrev pub forms_said : Option ℕ → Said
forms_said today = page status.Okay (form_list (server_frame today))

-- the response is the page of a verb's form that is filled in with these names and texts
abbrev pub IsFormPage : Option ℕ → Verb → List (List ℕ × List ℕ) → Said → Type 0
IsFormPage today verb texts said =
    (filled : List Filled) × (map pair_of filled ≡ texts)
    × (said ≡ page status.Okay (form_page (server_frame today) verb filled))

-- the response that was made, or where there was no memory for it, one that says so by its status
abbrev pub failed : Said
failed = bare status.InternalServerError

abbrev pub made_or_failed : {E : Type 0} → Result Response E → Said
made_or_failed (Ok response) = said_of response
made_or_failed (Err e) = failed

-- what is known for a form of what its target names
abbrev pub known_for : Option ℕ → Option ℕ → Option (List ℕ) → Option Payable → Known
known_for today number account payable = record {
  account = unwrap_or account [];
  number = number;
  today = today;
  payable = payable;
}

module _ {S : Type 0} (g : store.Ghosts S) where
  -- The form of a verb is shown, with what its target names and what the desk knows filled in; or
  -- there was no memory for that. The desk stands as before. A question has no form.
  pub data ShowsForm (today : Option ℕ) (old new : Desk S) (verb : Verb)
      (account : Option (List ℕ)) (payable : Option Payable) (said : Said) : Type 0 where
    shown : has_form verb ≡ true → (number : Option ℕ)
        → FindsNext (held g old) (held g new) verb account number
        → IsFormPage today verb (given (known_for today number account payable)) said
        → ShowsForm today old new verb account payable said
    unshown : has_form verb ≡ true → (number : Option ℕ)
        → FindsNext (held g old) (held g new) verb account number
        → said ≡ failed → ShowsForm today old new verb account payable said
    formless : has_form verb ≡ false → new ≡ old → said ≡ bare status.NotFound
        → ShowsForm today old new verb account payable said
