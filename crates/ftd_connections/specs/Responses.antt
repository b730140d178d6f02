-- The text of a response.
use Rattle.std.specs.Prelude.{ℕ, ◌++◌, Bool, true, false, List, [], ◌∷◌, length, codes, Option}
use Rattle.std.specs.Prelude.{Some, None}
use Rattle.std.specs.List.{concat}
use Rattle.std.specs.Fmt.{decimal}
use Rattle.ftd_days.specs.Text.{day_text}
use Rattle.ftd_http.specs.declared.status.Status.{Status}
use Rattle.ftd_http.specs.declared.status.Status.TheVariants as status
use Rattle.ftd_answers.specs.declared.formats.Format.{Format}
use Rattle.ftd_answers.specs.declared.formats.Format.TheVariants as format
use Rattle.ftd_answers.specs.declared.formats.ListFormat.{ListFormat}
use Rattle.ftd_answers.specs.declared.formats.ListFormat.TheVariants.{Text, Csv, Json}
use Rattle.ftd_pages.specs.declared.style.TheConstants.{STYLE}
use Rattle.ftd_verbs.specs.declared.formats.AnswerFormat.{AnswerFormat}
use Rattle.ftd_verbs.specs.declared.formats.AnswerFormat.TheVariants.{Plain, Page}
use Rattle.ftd_http.specs.Methods.{method_text}
use Rattle.ftd_http.specs.declared.ask.Methods.{Methods}
use Rattle.ftd_http.specs.declared.ask.Methods.TheVariants.{GetAndPost, Only}
use Rattle.ftd_connections.specs.declared.response.Content.{Content}
use Rattle.ftd_connections.specs.declared.response.Content.TheVariants as content
use Rattle.ftd_connections.specs.declared.response.OwedPage.{OwedPage}
use Rattle.ftd_connections.specs.declared.response.Response.{Response}

-- a response: its status, the method that its route has (if the message has another), the page to
-- which it leads (if it leads to one), what its body is, and the body
pub record Said : Type 0 where
  pub status : Status
  pub allow : Option Methods
  pub location : Option OwedPage
  pub content : Content
  pub body : List ℕ

abbrev pub said_of : Response → Said
said_of r = record {
  status = r.status;
  allow = r.allow;
  location = r.location;
  content = r.content;
  body = r.body.items;
}

-- a response without a body
abbrev pub bare : Status → Said
bare status = record {
  status = status;
  allow = None;
  location = None;
  content = content.Nothing;
  body = [];
}

-- the response where the route has another method, which it names
abbrev pub other_method : Methods → Said
other_method methods = record (bare status.MethodNotAllowed) { allow = Some methods }

-- the response that leads to the page of what is owed
abbrev pub see_owed : OwedPage → Said
see_owed page = record (bare status.SeeOther) { location = Some page }

-- a response with a body of plain text
abbrev pub text : Status → List ℕ → Said
text status body = record (bare status) { content = content.Text; body = body }

-- a response with a JSON body
abbrev pub json : Status → List ℕ → Said
json status body = record (bare status) { content = content.Json; body = body }

-- a response with the text of a report in a format
abbrev pub list_content : ListFormat → Content
list_content Text = content.Text
list_content Csv = content.Csv
list_content Json = content.Json

abbrev pub plain_content : Format → Content
plain_content (format.List of_list) = list_content of_list
plain_content format.Calendar = content.Calendar

abbrev pub content_of : AnswerFormat → Content
content_of (Plain format) = plain_content format
content_of Page = content.Page

abbrev pub formatted : AnswerFormat → List ℕ → Said
formatted format body =
    record (bare status.Okay) { content = content_of format; body = body }

-- a response with a page
abbrev pub page : Status → List ℕ → Said
page status body = record (bare status) { content = content.Page; body = body }

-- the response with the style sheet of the pages
abbrev pub style_sheet : Said
style_sheet = record (bare status.Okay) { content = content.StyleSheet; body = STYLE.now }

-- the end of a line
abbrev pub line_end : List ℕ
line_end = 13 ∷ 10 ∷ []

-- a status and its reason
abbrev pub status_text : Status → List ℕ
status_text status.Okay = codes "200 OK"
status_text status.SeeOther = codes "303 See Other"
status_text status.BadRequest = codes "400 Bad Request"
status_text status.Forbidden = codes "403 Forbidden"
status_text status.NotFound = codes "404 Not Found"
status_text status.MethodNotAllowed = codes "405 Method Not Allowed"
status_text status.Conflict = codes "409 Conflict"
status_text status.LengthRequired = codes "411 Length Required"
status_text status.ContentTooLarge = codes "413 Content Too Large"
status_text status.InternalServerError = codes "500 Internal Server Error"
status_text status.NotImplemented = codes "501 Not Implemented"

-- the lines that not every response has
abbrev pub methods_text : Methods → List ℕ
methods_text (Only method) = method_text method
methods_text GetAndPost = codes "GET, POST"

abbrev pub allow_line : Option Methods → List ℕ
allow_line None = []
allow_line (Some methods) = codes "Allow: " ++ methods_text methods ++ line_end

unfoldable pub owed_line : OwedPage → List ℕ
owed_line page =
    concat (codes "Location: /owed/" ∷ day_text page.as_of ∷ codes "/" ∷ day_text page.until
    ∷ codes "/html" ∷ line_end ∷ [])

abbrev pub location_line : Option OwedPage → List ℕ
location_line None = []
location_line (Some page) = owed_line page

abbrev pub content_line : Content → List ℕ
content_line content.Nothing = []
content_line content.Json = codes "Content-Type: application/json" ++ line_end
content_line content.Text = codes "Content-Type: text/plain" ++ line_end
content_line content.Csv = codes "Content-Type: text/csv" ++ line_end
content_line content.Calendar = codes "Content-Type: text/calendar" ++ line_end
content_line content.Page = codes "Content-Type: text/html; charset=utf-8" ++ line_end
content_line content.StyleSheet = codes "Content-Type: text/css; charset=utf-8" ++ line_end

-- the security headers of a page: it loads the server's style sheet and nothing else; its forms are
-- sent to this server alone; no other page shows it in a frame; its links have no other base; its
-- type is not guessed, its address is not sent to other sites, and no copy of it is kept
unfoldable pub page_security : List ℕ
page_security = concat (
    codes "Content-Security-Policy: default-src 'none'; style-src 'self'; form-action 'self'; "
    ∷ codes "frame-ancestors 'none'; base-uri 'none'" ∷ line_end
    ∷ codes "X-Content-Type-Options: nosniff" ∷ line_end
    ∷ codes "Referrer-Policy: same-origin" ∷ line_end
    ∷ codes "Cache-Control: no-store" ∷ line_end ∷ [])

abbrev pub security_lines : Content → List ℕ
security_lines content.Page = page_security
security_lines other = []

abbrev pub connection_line : Bool → List ℕ
connection_line false = []
connection_line true = codes "Connection: close" ++ line_end

-- the status, and the methods of the target
unfoldable pub start_text : Said → List ℕ
start_text said = concat (
    codes "HTTP/1.1 " ∷ status_text said.status ∷ line_end ∷ allow_line said.allow ∷ [])

-- the lines of the body, that of a connection that closes, and the empty line
unfoldable pub fields_text : Said → Bool → List ℕ
fields_text said closes = concat (
    content_line said.content ∷ security_lines said.content
    ∷ codes "Content-Length: " ∷ decimal (length said.body) ∷ line_end
    ∷ connection_line closes ∷ line_end ∷ [])

-- a response to its empty line; the connection closes after it or not
unfoldable pub head_text : Said → Bool → List ℕ
head_text said closes =
    start_text said ++ (location_line said.location ++ fields_text said closes)

-- the text of a response
unfoldable pub response_text : Said → Bool → List ℕ
response_text said closes = head_text said closes ++ said.body
