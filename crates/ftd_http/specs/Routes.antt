-- The routes: the path of each verb, and behind it the format in which it is told.
use Rattle.std.specs.Prelude.{ℕ, List, [], ◌∷◌, ◌++◌, codes, Option, Some, None, option_map, Result}
use Rattle.std.specs.Prelude.{Ok, Err, option_and_then, if◌then◌else◌}
use Rattle.std.specs.Path.{rsplit_once}
use Rattle.std.specs.Str.{bytes_eq}
use Rattle.matchit.specs.Rows.{RowsOf}
use Rattle.matchit.specs.Router.{RouteOf, route_from}
use Rattle.matchit.specs.Route.{Scan, parse_route}
use Rattle.matchit.specs.Order.{placed}
use Rattle.matchit.specs.Seek.{first}
use Rattle.matchit.specs.declared.error.InsertError.{InsertError}
use Rattle.ftd_verbs.specs.FieldRows.{key_of}
use Rattle.ftd_verbs.specs.Formats.{as_json, as_text, named}
use Rattle.ftd_verbs.specs.Rows.{PathPart, all_verbs, of, row_of, text}
use Rattle.ftd_verbs.specs.declared.formats.AnswerFormat.{AnswerFormat}
use Rattle.ftd_verbs.specs.declared.formats.Formats.{Formats}
use Rattle.ftd_verbs.specs.declared.formats.Formats.TheVariants as formats
use Rattle.ftd_verbs.specs.declared.rows.Verb.{Verb}
use Rattle.ftd_http.specs.declared.route.Route.{Route}

-- ---- how a route is written: `/accounts/{account}/runs`

abbrev pub part_text : PathPart → List ℕ
part_text (text word) = codes "/" ++ word
part_text (of at) = codes "/{" ++ key_of at ++ codes "}"

abbrev pub path_text : List PathPart → List ℕ
path_text [] = []
path_text (part ∷ parts) = part_text part ++ path_text parts

abbrev pub route_text : Verb → List ℕ
route_text verb = path_text (row_of verb).path

-- ---- the router, into which the routes are put one after the other

-- the rows with one more route, by its text
abbrev pub with_parsed : Result Scan InsertError → Verb → RowsOf (RouteOf Verb)
    → RowsOf (RouteOf Verb)
with_parsed (Ok s) value rows = placed (s.pattern, route_from s value) rows
with_parsed (Err e) value rows = rows

unfoldable pub with_route : List ℕ → Verb → RowsOf (RouteOf Verb) → RowsOf (RouteOf Verb)
with_route route value rows = with_parsed (parse_route route) value rows

-- the rows with the routes of verbs more
unfoldable pub with_verbs : List Verb → RowsOf (RouteOf Verb) → RowsOf (RouteOf Verb)
with_verbs [] rows = rows
with_verbs (verb ∷ verbs) rows = with_verbs verbs (with_route (route_text verb) verb rows)

unfoldable pub all_routes : RowsOf (RouteOf Verb)
all_routes = with_verbs all_verbs []

-- ---- the route of a target

abbrev pub verb_at : RowsOf (RouteOf Verb) → List ℕ → Option Verb
verb_at rows path = option_map (λ r. r.value) (first rows path)

-- what is told in one way is told as JSON, and what may be told in several, as text
abbrev pub first_format : Formats → AnswerFormat
first_format formats.Fixed = as_json
first_format formats.Explanation = as_text
first_format formats.List = as_text
first_format formats.Calendar = as_text

abbrev pub format_of : Verb → AnswerFormat
format_of verb = first_format (row_of verb).formats

-- the format behind a verb's path: one of the verb's, but for text, which stands behind no path
abbrev pub behind : Verb → List ℕ → Option AnswerFormat
behind verb last =
    if bytes_eq last (codes "text") then None else named (row_of verb).formats last

abbrev pub with_format : Verb → Option AnswerFormat → Option Route
with_format verb asked = option_map (λ told. record { verb = verb; format = told }) asked

-- a target that is a path and a last part, which is a format of the path's verb
abbrev pub cut_route : RowsOf (RouteOf Verb) → List ℕ × List ℕ → Option Route
cut_route rows cut =
    option_and_then (λ verb. with_format verb (behind verb cut.1)) (verb_at rows cut.0)

abbrev pub formatted : RowsOf (RouteOf Verb) → List ℕ → Option Route
formatted rows target = option_and_then (cut_route rows) (rsplit_once 47 target)

-- a target that is a path has that path's verb, and only one that is none may end in a format
abbrev pub by_path : RowsOf (RouteOf Verb) → List ℕ → Option Verb → Option Route
by_path rows target (Some verb) = Some (record { verb = verb; format = format_of verb })
by_path rows target None = formatted rows target

abbrev pub route_in : RowsOf (RouteOf Verb) → List ℕ → Option Route
route_in rows target = by_path rows target (verb_at rows target)

abbrev pub route_of : List ℕ → Option Route
route_of target = route_in all_routes target
