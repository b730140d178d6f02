-- The response to a refusal.
use Rattle.std.specs.Prelude.{ℕ, ◌++◌, ◌∷◌, [], List, codes, if◌then◌else◌}
use Rattle.std.specs.Fmt.{decimal}
use Rattle.ftd_answers.specs.Fields.{Told, members_of, number_field, object_of, text_field}
use Rattle.ftd_days.specs.Text.{quarter_text}
use Rattle.ftd_http.specs.declared.status.Status.{Status}
use Rattle.ftd_http.specs.declared.status.Status.TheVariants as status
use Rattle.ftd_machine.specs.Refusals.{is_failure, name_text, subject_of, number_of}
use Rattle.ftd_machine.specs.declared.replies.Subject.{Subject}
use Rattle.ftd_machine.specs.declared.replies.Subject.TheVariants as subject
use Rattle.ftd_machine.specs.declared.replies.Refusal.{Refusal}
use Rattle.ftd_connections.specs.Responses.{Said, json}

-- the year or the quarter that a refusal names, or how many corrections there are
abbrev pub subject_fields : Subject → List Told
subject_fields subject.Nothing = []
subject_fields (subject.Year year) = text_field (codes "detail") (decimal year) ∷ []
subject_fields (subject.Quarter quarter) = text_field (codes "detail") (quarter_text quarter) ∷ []
subject_fields (subject.Number count) = number_field (codes "count") count ∷ []

-- a name and a number
abbrev pub name_fields : List ℕ → ℕ → List Told
name_fields name number =
    text_field (codes "name") name ∷ number_field (codes "refused") number ∷ []

-- the fields of a refusal
abbrev pub refusal_fields : Refusal → List Told
refusal_fields r = subject_fields (subject_of r) ++ name_fields (name_text r) (number_of r)

-- its status: want of memory and a store that failed are faults of the server
abbrev pub refusal_status : Refusal → Status
refusal_status r = if is_failure r then status.InternalServerError else status.Conflict

abbrev pub refused : Refusal → Said
refused r = json (refusal_status r) (object_of (members_of (refusal_fields r)))
