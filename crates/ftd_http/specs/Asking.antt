-- What a message asks.
use Rattle.std.specs.Prelude.{◌==◌, ◌&&◌, not, length, List, ℕ, Bool, true, false, Option, Some}
use Rattle.std.specs.Prelude.{None, codes, option_and_then, if◌then◌else◌}
use Rattle.std.specs.Path.{rsplit_once}
use Rattle.std.specs.Str.{is_utf8, bytes_eq}
use Rattle.ftd_machine.specs.declared.requests.Request.{Request}
use Rattle.ftd_verbs.specs.Rows.{row_of}
use Rattle.ftd_verbs.specs.declared.formats.AnswerFormat.{AnswerFormat}
use Rattle.ftd_verbs.specs.declared.formats.AnswerFormat.TheVariants.{Plain, Page}
use Rattle.ftd_verbs.specs.declared.rows.Method.{Method}
use Rattle.ftd_verbs.specs.declared.rows.Method.TheVariants.{Get, Post, Put, Delete}
use Rattle.ftd_http.specs.Forms.{form_at}
use Rattle.ftd_http.specs.Methods.{method_text}
use Rattle.ftd_http.specs.Routes.{route_of}
use Rattle.ftd_http.specs.Requests.{request_of}
use Rattle.ftd_http.specs.declared.route.Route.{Route}
use Rattle.ftd_http.specs.declared.ask.Inquiry.{Inquiry}
use Rattle.ftd_http.specs.declared.ask.Inquiry.TheVariants as asked
use Rattle.ftd_http.specs.declared.ask.Methods.TheVariants.{Only}

-- what a message of the right method asks
abbrev pub formed : AnswerFormat → Option Request → Inquiry
formed format None = asked.BadForm
formed format (Some request) = asked.Asks format request

-- what a message asks that has this route
abbrev pub method_of : Route → Method
method_of route = (row_of route.verb).method

-- the name of the account whose page a target asks for: it is between `/accounts/` and `/html`, and
-- not empty
abbrev pub account_behind : List ℕ × List ℕ → Option (List ℕ)
account_behind cut =
    if bytes_eq cut.0 (codes "/accounts") && not (length cut.1 == 0) then Some cut.1 else None

abbrev pub account_in : List ℕ → Option (List ℕ)
account_in path = option_and_then account_behind (rsplit_once 47 path)

abbrev pub page_behind : List ℕ × List ℕ → Option (List ℕ)
page_behind cut = if bytes_eq cut.1 (codes "html") then account_in cut.0 else None

abbrev pub page_name : List ℕ → Option (List ℕ)
page_name target = option_and_then page_behind (rsplit_once 47 target)

-- what a message of this method asks of that page
abbrev pub page_asked : List ℕ → List ℕ → Inquiry
page_asked method account =
    if bytes_eq method (method_text Get) then asked.Account account else asked.OtherMethod (Only Get)

-- what a message asks whose target is no verb's: the page of an account, a form, or nothing
abbrev pub page_if : List ℕ → List ℕ → Option (List ℕ) → Inquiry
page_if method target None = form_at method target
page_if method target (Some account) = page_asked method account

abbrev pub unrouted : List ℕ → List ℕ → Inquiry
unrouted method target = page_if method target (page_name target)

abbrev pub routed : List ℕ → List ℕ → List ℕ → Option Route → Inquiry
routed method target body None = unrouted method target
routed method target body (Some route) =
    if bytes_eq method (method_text (method_of route))
    then formed route.format (request_of route.verb target body)
    else asked.OtherMethod (Only (method_of route))

-- what a message asks by the route of a verb, or of the page of an account; a target that is no
-- UTF-8 has none
unfoldable pub verb_asked : List ℕ → List ℕ → List ℕ → Inquiry
verb_asked method target body =
    if is_utf8 target then routed method target body (route_of target) else asked.NoRoute

-- the target of commands, which stand in the body, and what a message of this method asks there
abbrev pub commands_path : List ℕ
commands_path = codes "/commands"

abbrev pub commands_asked : List ℕ → Inquiry
commands_asked method =
    if bytes_eq method (method_text Post) then asked.Commands else asked.OtherMethod (Only Post)

-- the target of the desk's journal, and what a message of this method asks there, or at that of an
-- account's
abbrev pub journal_path : List ℕ
journal_path = codes "/journal"

abbrev pub journal_asked : List ℕ → Option (List ℕ) → Inquiry
journal_asked method account =
    if bytes_eq method (method_text Get) then asked.Journal account else asked.OtherMethod (Only Get)

-- the target of the style sheet of the pages, and what a message of this method asks there
abbrev pub style_path : List ℕ
style_path = codes "/style.css"

abbrev pub style_asked : List ℕ → Inquiry
style_asked method =
    if bytes_eq method (method_text Get) then asked.StyleSheet else asked.OtherMethod (Only Get)

-- the target of the first page, and what a message of this method asks there
abbrev pub home_path : List ℕ
home_path = codes "/"

abbrev pub home_asked : List ℕ → Inquiry
home_asked method =
    if bytes_eq method (method_text Get) then asked.Home else asked.OtherMethod (Only Get)

-- the name of the account whose journal a target asks for: what is behind its last slash, if that
-- is not empty and the target of the desk's journal is before it
abbrev pub named_by : List ℕ × List ℕ → Option (List ℕ)
named_by cut = if bytes_eq cut.0 journal_path && not (length cut.1 == 0) then Some cut.1 else None

unfoldable pub journal_name : List ℕ → Option (List ℕ)
journal_name target =
    if is_utf8 target then option_and_then named_by (rsplit_once 47 target) else None

-- what a message asks of the account of this name, if its target has one, or else by the route of a
-- verb
abbrev pub named_asked : List ℕ → List ℕ → List ℕ → Option (List ℕ) → Inquiry
named_asked method target body None = verb_asked method target body
named_asked method target body (Some account) = journal_asked method (Some account)

-- what a message of this method, this target and this body asks
unfoldable pub asked_of : List ℕ → List ℕ → List ℕ → Inquiry
asked_of method target body =
    if bytes_eq target commands_path then commands_asked method
    else if bytes_eq target journal_path then journal_asked method None
    else if bytes_eq target style_path then style_asked method
    else if bytes_eq target home_path then home_asked method
    else named_asked method target body (journal_name target)

-- it asks the desk for a page
abbrev pub is_page : AnswerFormat → Bool
is_page (Plain format) = false
is_page Page = true

abbrev pub is_for_page : Inquiry → Bool
is_for_page (asked.Asks format request) = is_page format
is_for_page other = false

-- it asks for what a browser shows: a page, the first one, that of an account and those of forms
-- too, or the style sheet of the pages
abbrev pub is_for_browser : Inquiry → Bool
is_for_browser asked.Home = true
is_for_browser (asked.Account account) = true
is_for_browser asked.Forms = true
is_for_browser (asked.Form verb account payable) = true
is_for_browser (asked.Sent verb) = true
is_for_browser asked.StyleSheet = true
is_for_browser other = is_for_page other
