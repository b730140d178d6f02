-- The formats in which an answer may be asked for.
use Rattle.std.specs.Prelude.{ℕ, List, Bool, true, false, Option, Some, None, option_and_then}
use Rattle.std.specs.Prelude.{codes, if◌then◌else◌}
use Rattle.std.specs.Str.{bytes_eq}
use Rattle.ftd_answers.specs.declared.formats.Format.TheVariants as format
use Rattle.ftd_answers.specs.declared.formats.ListFormat.TheVariants.{Text as Lines, Csv, Json}
use Rattle.ftd_verbs.specs.declared.formats.AnswerFormat.{AnswerFormat}
use Rattle.ftd_verbs.specs.declared.formats.AnswerFormat.TheVariants.{Plain, Page}
use Rattle.ftd_verbs.specs.declared.formats.Formats.{Formats}
use Rattle.ftd_verbs.specs.declared.formats.Formats.TheVariants as formats

-- text, in which each answer can be told; and JSON
abbrev pub as_text : AnswerFormat
as_text = Plain (format.List Lines)

abbrev pub as_json : AnswerFormat
as_json = Plain (format.List Json)

-- the format that is named so
abbrev pub format_named : List ℕ → Option AnswerFormat
format_named text =
    if bytes_eq text (codes "text") then Some as_text
    else if bytes_eq text (codes "csv") then Some (Plain (format.List Csv))
    else if bytes_eq text (codes "json") then Some as_json
    else if bytes_eq text (codes "ics") then Some (Plain format.Calendar)
    else if bytes_eq text (codes "html") then Some Page
    else None

-- why an obligation is so is text, JSON or a page, a list CSV too, and what is due over all
-- accounts a calendar too
abbrev pub takes : Formats → AnswerFormat → Bool
takes formats.Fixed asked = false
takes formats.Explanation (Plain (format.List Lines)) = true
takes formats.Explanation (Plain (format.List Csv)) = false
takes formats.Explanation (Plain (format.List Json)) = true
takes formats.Explanation (Plain format.Calendar) = false
takes formats.Explanation Page = true
takes formats.List (Plain (format.List asked)) = true
takes formats.List (Plain format.Calendar) = false
takes formats.List Page = true
takes formats.Calendar asked = true

-- the one of these that is named so
abbrev pub named : Formats → List ℕ → Option AnswerFormat
named formats text =
    option_and_then (λ asked. if takes formats asked then Some asked else None) (format_named text)
