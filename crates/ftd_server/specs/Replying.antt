-- The response to what is asked.
use Rattle.std.specs.Prelude.{◌≡◌, ℕ, ◌∷◌, [], List, codes, length, Ok, Err, Option, Some}
use Rattle.std.specs.Prelude.{None, unwrap_or}
use Rattle.ftd_days.specs.Text.{day_text}
use Rattle.ftd_http.specs.declared.status.Status.TheVariants as status
use Rattle.ftd_machine.specs.Questions.{account_asked}
use Rattle.ftd_machine.specs.declared.requests.Request.{Request}
use Rattle.ftd_machine.specs.declared.requests.Request.TheVariants as request
use Rattle.ftd_machine.specs.declared.replies.Refusal.{Refusal}
use Rattle.ftd_machine.specs.declared.replies.Difference.{Difference}
use Rattle.ftd_machine.specs.declared.replies.Reply.{Reply}
use Rattle.ftd_machine.specs.declared.replies.Reply.TheVariants as reply
use Rattle.ftd_machine.specs.Checks.{Answer}
use Rattle.ftd_answers.specs.Fields.{Told, members_of, number_field, object_of, text_field}
use Rattle.ftd_pages.specs.Formats.{facts_as}
use Rattle.ftd_pages.specs.declared.frames.Frame.{Frame}
use Rattle.ftd_pages.specs.declared.frames.Style.TheVariants.{Linked}
use Rattle.ftd_pages.specs.declared.frames.Ways.{Ways}
use Rattle.ftd_pages.specs.declared.frames.Ways.TheVariants.{From, Nowhere}
use Rattle.ftd_site.specs.Refusals.{refused_page}
use Rattle.ftd_verbs.specs.declared.formats.AnswerFormat.{AnswerFormat}
use Rattle.ftd_verbs.specs.declared.formats.AnswerFormat.TheVariants.{Plain, Page}
use Rattle.ftd_connections.specs.Ahead.{shown_until}
use Rattle.ftd_connections.specs.Responses.{Said, bare, formatted, json}
use Rattle.ftd_connections.specs.Responses.{other_method, page, style_sheet}
use Rattle.ftd_server.specs.Refusals.{refusal_status, refused}
use Rattle.ftd_http.specs.declared.ask.Inquiry.{Inquiry}
use Rattle.ftd_http.specs.declared.ask.Inquiry.TheVariants as asked

-- the response with the name of a reply alone
abbrev pub named : List ℕ → Said
named reply = json status.Okay (object_of (members_of (text_field (codes "reply") reply ∷ [])))

-- how many obligations were removed and added, and their days
abbrev pub posted_fields : Difference → List Told
posted_fields d =
    number_field (codes "added") (length d.added) ∷ text_field (codes "from") (day_text d.from)
    ∷ number_field (codes "removed") (length d.removed)
    ∷ text_field (codes "reply") (codes "posted") ∷ text_field (codes "to") (day_text d.to) ∷ []

abbrev pub posted : Difference → Said
posted d = json status.Okay (object_of (members_of (posted_fields d)))

-- The ways of the server's pages on the day of today, if it is known: to what is owed as of today,
-- to what is due from today on, to the accounts, and to the forms.
abbrev pub ways_on : Option ℕ → Ways
ways_on None = Nowhere
ways_on (Some today) = From today (shown_until today)

-- the frame of the server's pages: their style sheet is a route
abbrev pub server_frame : Option ℕ → Frame
server_frame today = record { style = Linked; ways = ways_on today }

-- the response to a reply on the day of today, in a format where it has several
abbrev pub replied : Option ℕ → AnswerFormat → Reply → Said
replied today format reply.Done = named (codes "done")
replied today format reply.Already = named (codes "already")
replied today format (reply.Posted difference) = posted difference
replied today format (reply.Told facts) =
    formatted format (facts_as (server_frame today) format facts)

-- the response to the refusal of what names this account, or none: a page says in a sentence why
-- there is no answer, and has a link to the form that helps
abbrev pub refused_as : Option ℕ → AnswerFormat → List ℕ → Refusal → Said
refused_as today (Plain format) account refusal = refused refusal
refused_as today Page account refusal =
    page (refusal_status refusal) (refused_page (server_frame today) account refusal)

abbrev pub answered : Option ℕ → AnswerFormat → List ℕ → Answer → Said
answered today format account (Ok reply) = replied today format reply
answered today format account (Err refusal) = refused_as today format account refusal

-- the account that a question names; the empty text where it names none
abbrev pub account_in : Request → List ℕ
account_in (request.Question question) = unwrap_or (account_asked question) []
account_in other = []

-- The response of a machine that answers requests alone to what is asked: where no request is
-- asked of it, it stays as it is. `goes` has the machine, a request, its answer, and the machine
-- after it.
module _ {M : Type 0} (goes : M → Request → Answer → M → Type 0) where
  -- on the day of today, if it is known
  abbrev pub Responds : Option ℕ → M → Inquiry → Said → M → Type 0
  Responds today now asked.NoRoute said later = (later ≡ now) × (said ≡ bare status.NotFound)
  Responds today now (asked.OtherMethod allow) said later =
      (later ≡ now) × (said ≡ other_method allow)
  Responds today now asked.BadForm said later = (later ≡ now) × (said ≡ bare status.BadRequest)
  Responds today now asked.Home said later = (later ≡ now) × (said ≡ bare status.NotFound)
  Responds today now asked.Commands said later = (later ≡ now) × (said ≡ bare status.NotFound)
  Responds today now (asked.Journal account) said later =
      (later ≡ now) × (said ≡ bare status.NotFound)
  Responds today now (asked.Account account) said later =
      (later ≡ now) × (said ≡ bare status.NotFound)
  Responds today now asked.Forms said later = (later ≡ now) × (said ≡ bare status.NotFound)
  Responds today now (asked.Form verb account payable) said later =
      (later ≡ now) × (said ≡ bare status.NotFound)
  Responds today now (asked.Sent verb) said later =
      (later ≡ now) × (said ≡ bare status.NotFound)
  Responds today now asked.StyleSheet said later = (later ≡ now) × (said ≡ style_sheet)
  Responds today now (asked.Asks format request) said later =
      (answer : Answer) × goes now request answer later
      × (said ≡ answered today format (account_in request) answer)

  -- the same of a message, whatever its body is, where no day is known
  abbrev pub ByRequests : M → Inquiry → List ℕ → Said → M → Type 0
  ByRequests now asked body said later = Responds None now asked said later
