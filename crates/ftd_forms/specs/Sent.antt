-- The response to who sends a form.
use Rattle.std.specs.Prelude.{◌≡◌, ◌==◌, ◌&&◌, ◌⊎◌, ℕ, Bool, false, true, List, [], map, Option}
use Rattle.std.specs.Prelude.{Some, Err, Ok, if◌then◌else◌}
use Rattle.std.specs.Global.{Vec}
use Rattle.std.specs.Option.{is_none}
use Rattle.sqlite.specs.Store as store
use Rattle.ftd_ports.specs.Ports.{has_failed, inner_of}
use Rattle.ftd_ports.specs.declared.port.Port.{Port}
use Rattle.ftd_cli.specs.declared.tasks.Job.{Job}
use Rattle.ftd_cli.specs.declared.tasks.Job.TheVariants as job
use Rattle.ftd_desk.specs.declared.desk.Desk.{Desk}
use Rattle.ftd_http.specs.Controls.{Typed, are_of_form, controls_in, text_at}
use Rattle.ftd_http.specs.FormFields.{request_of_form}
use Rattle.ftd_http.specs.declared.status.Status.{Status}
use Rattle.ftd_http.specs.declared.status.Status.TheVariants as status
use Rattle.ftd_machine.specs.declared.requests.Request.{Request}
use Rattle.ftd_site.specs.Controls.{pair_of}
use Rattle.ftd_site.specs.Forms.{has_form}
use Rattle.ftd_site.specs.SentForms.{sent_page}
use Rattle.ftd_site.specs.declared.controls.Filled.{Filled}
use Rattle.ftd_site.specs.declared.sent_forms.Outcome.{Outcome}
use Rattle.ftd_site.specs.declared.sent_forms.Outcome.TheVariants as outcome
use Rattle.ftd_program.specs.Doing as doing
use Rattle.ftd_program.specs.declared.performing.JobEnd.{JobEnd}
use Rattle.ftd_server.specs.Replying.{server_frame}
use Rattle.ftd_connections.specs.Responses.{Said, bare, page}
use Rattle.ftd_verbs.specs.Formats.{as_text}
use Rattle.ftd_verbs.specs.Rows.{is_correction}
use Rattle.ftd_verbs.specs.declared.field.Field.{Field}
use Rattle.ftd_verbs.specs.declared.field.Field.TheVariants.{Number}
use Rattle.ftd_verbs.specs.declared.rows.Verb.{Verb}
use Rattle.ftd_forms.specs.Shown.{failed}

-- ---- what is asked

-- what the form asks takes the next number: a correction whose number is left out does
abbrev pub takes_next : Verb → List Typed → Bool
takes_next verb controls = is_correction verb && is_none (text_at controls Number)

-- what its verb's command does with the same fields
abbrev pub job_of : Verb → List Typed → Request → Job
job_of verb controls request =
    if takes_next verb controls then job.AskNext request else job.Ask as_text request

-- what was written to memory
abbrev pub written_in : Port (Vec ℕ) → List ℕ
written_in port = (inner_of port).items

abbrev pub written_by : Port (Vec ℕ) → Option (List ℕ)
written_by port = Some (written_in port)

-- what was done, with what it wrote to memory
abbrev pub Written : Type 0
Written = JobEnd (Port (Vec ℕ)) (Port (Vec ℕ))

-- ---- the page of what came of it

-- what was filled in, as names and texts
abbrev pub texts_of : List Typed → List (List ℕ × List ℕ)
texts_of controls = map (λ control. (control.name, control.text)) controls

-- the status of the response to what ended with this exit status
abbrev pub status_for : ℕ → Status
status_for exit =
    if exit == 0 then status.Okay else if exit == 1 then status.Conflict
    else status.InternalServerError

-- It was done: what was answered, and what is said below that. Or it was refused, or failed: what
-- was said of that.
abbrev pub HasCome : Bool → List ℕ → List ℕ → Outcome → Type 0
HasCome true out err (outcome.Done answer below) = (answer.now ≡ out) × (below.now ≡ err)
HasCome false out err (outcome.Refused said) = said.now ≡ err
HasCome done out err other = ⊥

-- the response is the page of what came of a verb's form that was filled in so
abbrev pub IsSentPage : Option ℕ → Verb → List Typed → Status → Outcome → Said → Type 0
IsSentPage today verb controls status come said =
    (filled : List Filled) × (map pair_of filled ≡ texts_of controls)
    × (said ≡ page status (sent_page (server_frame today) verb filled come))

-- the page says which field has no value of its kind; or there was no memory for it
abbrev pub TellsBad : Option ℕ → Verb → List Typed → Field → Said → Type 0
TellsBad today verb controls field said =
    IsSentPage today verb controls status.BadRequest (outcome.Bad field) said ⊎ (said ≡ failed)

-- the page tells what came of what was done
abbrev pub IsEndPage : Option ℕ → Verb → List Typed → Written → Said → Type 0
IsEndPage today verb controls end said =
    (come : Outcome) × HasCome (end.status == 0) (written_in end.out) (written_in end.err) come
    × IsSentPage today verb controls (status_for end.status) come said

-- it does so; or there was no memory for it
abbrev pub TellsEnd : Option ℕ → Verb → List Typed → Written → Said → Type 0
TellsEnd today verb controls end said =
    IsEndPage today verb controls end said ⊎ (said ≡ failed)

module _ {S : Type 0} (g : store.Ghosts S) where
  -- the job was done with the desk of this file, and what a command prints written to memory
  pub record Does (old new : Desk S) (db : List ℕ) (asked : Job) (end : Written) : Type 0 where
    pub out : Port (Vec ℕ)
    pub is_out : written_in out ≡ []
    pub err : Port (Vec ℕ)
    pub is_err : written_in err ≡ []
    pub does : doing.Does g written_by has_failed written_by has_failed out err end old new [] db
        asked

  -- what the form asks was done, and the page tells what came of it
  abbrev pub AsksSent : List ℕ → Option ℕ → Desk S → Desk S → Verb → List Typed → Request → Said
      → Type 0
  AsksSent db today old new verb controls request said =
      (end : Written) × Does old new db (job_of verb controls request) end
      × TellsEnd today verb controls end said

  -- What its verb asks by the fields of a form was done, and the response tells what came of it; or
  -- a field has no value of its kind, which the response tells, and nothing was asked; or there was
  -- no memory, and nothing was asked.
  pub data TellsSent (db : List ℕ) (today : Option ℕ) (old new : Desk S) (verb : Verb)
      (controls : List Typed) (said : Said) : Type 0 where
    asked : (request : Request) → request_of_form verb controls ≡ Ok request
        → AsksSent db today old new verb controls request said
        → TellsSent db today old new verb controls said
    bad : (field : Field) → request_of_form verb controls ≡ Err field → new ≡ old
        → TellsBad today verb controls field said
        → TellsSent db today old new verb controls said
    unasked : new ≡ old → said ≡ failed → TellsSent db today old new verb controls said

  -- so where the controls are those of the verb's form; else nothing was asked
  abbrev pub TellsIf : Bool → List ℕ → Option ℕ → Desk S → Desk S → Verb → List Typed → Said
      → Type 0
  TellsIf true db today old new verb controls said = TellsSent db today old new verb controls said
  TellsIf false db today old new verb controls said =
      (new ≡ old) × (said ≡ bare status.BadRequest)

  abbrev pub TellsControls : List ℕ → Option ℕ → Desk S → Desk S → Verb → List Typed → Said
      → Type 0
  TellsControls db today old new verb controls said =
      TellsIf (are_of_form verb controls) db today old new verb controls said

  -- What the controls in the body of a message ask of the desk was asked, and the response tells
  -- what came of it; or there was no memory to read them, and nothing was asked. A question has no
  -- form.
  pub data AnswersSent (db : List ℕ) (today : Option ℕ) (old new : Desk S) (verb : Verb)
      (body : List ℕ) (said : Said) : Type 0 where
    read : has_form verb ≡ true → TellsControls db today old new verb (controls_in body) said
        → AnswersSent db today old new verb body said
    unread : has_form verb ≡ true → new ≡ old → said ≡ failed
        → AnswersSent db today old new verb body said
    formless : has_form verb ≡ false → new ≡ old → said ≡ bare status.NotFound
        → AnswersSent db today old new verb body said
