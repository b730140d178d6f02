-- A page, and a list in it.
use Rattle.std.specs.Prelude.{ℕ, List, [], ◌∷◌, ◌++◌, codes, None}
use Rattle.std.specs.List.{concat, flat_map}
use Rattle.ftd_days.specs.Text.{cents_text, day_text}
use Rattle.ftd_pages.specs.Escapes.{escaped}
use Rattle.ftd_pages.specs.Links.{account_way_if}
use Rattle.ftd_pages.specs.Rows.{Shape, body_for, cell, header_for}
use Rattle.ftd_pages.specs.declared.feet.Foot.{Foot}
use Rattle.ftd_pages.specs.declared.feet.Foot.TheVariants as foot
use Rattle.ftd_pages.specs.declared.frames.Frame.{Frame}
use Rattle.ftd_pages.specs.declared.frames.Style.{Style}
use Rattle.ftd_pages.specs.declared.frames.Style.TheVariants as style
use Rattle.ftd_pages.specs.declared.frames.Ways.{Ways}
use Rattle.ftd_pages.specs.declared.frames.Ways.TheVariants as ways
use Rattle.ftd_pages.specs.declared.style.TheConstants.{STYLE}

-- ---- what stands around a list

-- a title: its words and values one after the other, escaped
abbrev pub titled : List (List ℕ) → List ℕ
titled parts = flat_map escaped parts

-- the style: the sheet within the page, or a link to the server's
unfoldable pub sheet_within : List ℕ → List ℕ
sheet_within sheet = concat (codes "<style>\n" ∷ sheet ∷ codes "</style>\n" ∷ [])

abbrev pub style_text : Style → List ℕ
style_text style.Within = sheet_within STYLE.now
style_text style.Linked = codes "<link rel=\"stylesheet\" href=\"/style.css\">\n"

-- the ways to what is owed as of today until a day, to what is due from today to that day, to the
-- accounts, and to the forms
unfoldable pub ways_start : ℕ → ℕ → List ℕ
ways_start today until =
    concat (codes "<nav aria-label=\"Pages\"><a href=\"/owed/" ∷ day_text today ∷ codes "/"
    ∷ day_text until ∷ codes "/html\">Owed</a> <a href=\"/agenda/" ∷ day_text today ∷ codes "/"
    ∷ day_text until ∷ codes "/" ∷ day_text today
    ∷ (codes "/html\">Due</a> <a href=\"/lists/accounts/html\">Accounts</a> "
    ++ codes "<a href=\"/forms\">Enter</a>") ∷ [])

-- these, and from a page that is of an account the way to the account's page; or none
unfoldable pub ways_from : ℕ → ℕ → List ℕ → List ℕ
ways_from today until account =
    ways_start today until ++ (account_way_if account ++ codes "</nav>\n")

abbrev pub ways_text : Ways → List ℕ → List ℕ
ways_text ways.Nowhere account = []
ways_text (ways.From today until) account = ways_from today until account

-- a page up to its list, and from it on; it is of an account, or of none, which is the empty text
abbrev pub page_head : List ℕ
page_head =
    codes "<!DOCTYPE html>\n<html lang=\"en\">\n<head>\n<meta charset=\"utf-8\">\n"
    ++ codes "<meta name=\"viewport\" content=\"width=device-width, initial-scale=1\">\n<title>"

unfoldable pub page_start : Frame → List ℕ → List ℕ → List ℕ
page_start frame account title =
    page_head ++ (title ++ (codes "</title>\n" ++ (style_text frame.style
    ++ (codes "</head>\n<body>\n" ++ (ways_text frame.ways account ++ codes "<main>\n")))))

abbrev pub page_end : List ℕ
page_end = codes "</main>\n</body>\n</html>\n"

unfoldable pub page_of : Frame → List ℕ → List ℕ → List ℕ → List ℕ
page_of frame account title part = page_start frame account title ++ (part ++ page_end)

-- ---- a list

-- the cells of a foot: which sums it has, each under its column
abbrev pub left_sum : ℕ → List ℕ
left_sum left =
    codes "<th scope=\"row\" colspan=\"8\">Left to pay</th>"
    ++ (cell (codes "left") None (cents_text left) ++ codes "<td colspan=\"2\"></td>")

abbrev pub due_sums : ℕ → ℕ → List ℕ
due_sums amount left =
    codes "<th scope=\"row\" colspan=\"5\">Total</th>" ++ (cell (codes "amount") None (cents_text amount)
    ++ (codes "<td></td>" ++ (cell (codes "left") None (cents_text left)
    ++ codes "<td colspan=\"2\"></td>")))

abbrev pub day_sum : ℕ → List ℕ
day_sum amount =
    codes "<th scope=\"row\" colspan=\"2\">Total</th>" ++ cell (codes "amount") None (cents_text amount)

-- a foot with these cells, and none where there is no sum
unfoldable pub foot_of : List ℕ → List ℕ
foot_of cells = codes "<tfoot>\n<tr>" ++ (cells ++ codes "</tr>\n</tfoot>\n")

abbrev pub foot_text : Foot → List ℕ
foot_text foot.Nothing = []
foot_text (foot.Left left) = foot_of (left_sum left)
foot_text (foot.Due amount left) = foot_of (due_sums amount left)
foot_text (foot.Days amount) = foot_of (day_sum amount)

-- a table: the caption, the header, the rows, and the foot
unfoldable pub table_of : List ℕ → List ℕ → List ℕ → List ℕ → List ℕ
table_of title header rows foot =
    codes "<table>\n<caption>" ++ (title ++ (codes "</caption>\n" ++ (header
    ++ (codes "<tbody>\n" ++ (rows ++ (codes "</tbody>\n" ++ (foot ++ codes "</table>\n")))))))

-- where there are no rows, a sentence says so
unfoldable pub none_of : List ℕ → List ℕ → List ℕ
none_of title sentence =
    codes "<h1>" ++ (title ++ (codes "</h1>\n<p>" ++ (escaped sentence ++ codes "</p>\n")))

-- a list on a page that has these ways: the table of its rows, or the sentence
abbrev pub list_of : {T : Type 0} → Ways → Shape T → List ℕ → List ℕ → List ℕ → List T → List ℕ
list_of ways shape title sentence foot [] = none_of title sentence
list_of ways shape title sentence foot (x ∷ rows) =
    table_of title (header_for shape x) (flat_map (body_for ways shape) (x ∷ rows)) foot
