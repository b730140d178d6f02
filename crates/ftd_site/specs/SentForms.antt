-- The page that answers a form that was sent.
use Rattle.std.specs.Prelude.{ℕ, ◌==◌, List, [], ◌∷◌, ◌++◌, codes, length, if◌then◌else◌}
use Rattle.std.specs.Prelude.{Option, Some, None, option_map}
use Rattle.std.specs.Fmt.{decimal}
use Rattle.std.specs.List.{concat}
use Rattle.ftd_days.specs.Calendar.{year_of}
use Rattle.ftd_days.specs.Spelling.{day_of, whole_number}
use Rattle.ftd_verbs.specs.FieldRows.{key_of}
use Rattle.ftd_verbs.specs.declared.rows.Verb.{Verb}
use Rattle.ftd_verbs.specs.declared.rows.Verb.TheVariants as verb
use Rattle.ftd_verbs.specs.declared.field.Field.TheVariants.{Account, Day, Year}
use Rattle.ftd_site.specs.Controls.{filled_in}
use Rattle.ftd_pages.specs.Escapes.{escaped}
use Rattle.ftd_pages.specs.Links.{address_in_page, link}
use Rattle.ftd_site.specs.FormWords.{help_of, label_of, title_of}
use Rattle.ftd_site.specs.FormLists.{form_way}
use Rattle.ftd_site.specs.Forms.{form_of}
use Rattle.ftd_pages.specs.Pages.{page_of, titled}
use Rattle.ftd_pages.specs.Sections.{page_heading}
use Rattle.ftd_site.specs.declared.controls.Filled.{Filled}
use Rattle.ftd_pages.specs.declared.frames.Frame.{Frame}
use Rattle.ftd_site.specs.declared.sent_forms.Outcome.{Outcome}
use Rattle.ftd_site.specs.declared.sent_forms.Outcome.TheVariants as outcome

-- which field has no value of its kind, with a link to its control
unfoldable pub bad_text : List ℕ → List ℕ → List ℕ → List ℕ
bad_text name label help =
    concat (codes "<p class=\"bad\">Correct the field <a href=\"#" ∷ name ∷ codes "\">" ∷ label
    ∷ codes "</a>. " ∷ help ∷ codes "</p>\n" ∷ [])

-- what was printed, if something was
unfoldable pub pre_text : List ℕ → List ℕ
pre_text text = codes "<pre>" ++ (escaped text ++ codes "</pre>\n")

abbrev pub printed_part : List ℕ → List ℕ
printed_part text = if length text == 0 then [] else pre_text text

-- what came of a form: the field that has no value of its kind; what was said where it was refused;
-- or what was answered, and what is said below that
abbrev pub outcome_part : Outcome → List ℕ
outcome_part (outcome.Bad field) = bad_text (key_of field) (label_of field) (help_of field)
outcome_part (outcome.Refused said) = printed_part said.now
outcome_part (outcome.Done answer below) = printed_part answer.now ++ printed_part below.now

-- whether it was done, in words, before what the form does: so the title of the page begins
abbrev pub came_of : Outcome → List ℕ
came_of (outcome.Done answer below) = codes "Done: "
came_of other = codes "Not done: "

abbrev pub sent_title : Verb → Outcome → List ℕ
sent_title verb outcome = titled (came_of outcome ∷ title_of verb ∷ [])

-- the account that the page is of: the one that is filled in, unless a field has no value of its
-- kind
abbrev pub account_after : List Filled → Outcome → List ℕ
account_after filled (outcome.Bad field) = []
account_after filled other = filled_in filled Account

-- the name of the field that has no value of its kind, if there is one
abbrev pub bad_name : Outcome → List ℕ
bad_name (outcome.Bad field) = key_of field
bad_name other = []

-- the way to another form of the verb, with the account filled in, if the form names one
unfoldable pub again_text : List ℕ → Verb → List ℕ
again_text account verb = codes "<p>" ++ (form_way account verb ++ codes "</p>\n")

-- the year whose holidays a form changes: the one that is filled in for a calendar, and that of the
-- day that is filled in for a holiday
abbrev pub year_changed : Verb → List Filled → Option ℕ
year_changed verb.Calendar filled = whole_number (filled_in filled Year)
year_changed verb.AddHoliday filled = option_map year_of (day_of (filled_in filled Day))
year_changed verb.ChangeHoliday filled = option_map year_of (day_of (filled_in filled Day))
year_changed _ filled = None

-- the way to the list of the holidays of that year
unfoldable pub holidays_way : ℕ → List ℕ
holidays_way year =
    link (address_in_page (codes "/lists/holidays/" ∷ decimal year ∷ codes "/html" ∷ []))
    (decimal year)

unfoldable pub holidays_text : ℕ → List ℕ
holidays_text year =
    codes "<p>Legal holidays of " ++ (holidays_way year ++ codes "</p>\n")

abbrev pub changed_part : Option ℕ → List ℕ
changed_part (Some year) = holidays_text year
changed_part None = []

-- below what was done the ways to the list that it changed and to another form
abbrev pub done_part : Verb → List Filled → List ℕ
done_part verb filled =
    changed_part (year_changed verb filled) ++ again_text (filled_in filled Account) verb

-- below what came of it the same form, as it was filled in, or where it was done those ways
abbrev pub after_part : Verb → List Filled → Outcome → List ℕ
after_part verb filled (outcome.Done answer below) = done_part verb filled
after_part verb filled other = form_of verb (bad_name other) filled

unfoldable pub sent_part : Verb → List Filled → Outcome → List ℕ
sent_part verb filled outcome =
    page_heading (sent_title verb outcome)
    ++ (outcome_part outcome ++ after_part verb filled outcome)

abbrev pub sent_page : Frame → Verb → List Filled → Outcome → List ℕ
sent_page frame verb filled outcome =
    page_of frame (account_after filled outcome) (sent_title verb outcome)
    (sent_part verb filled outcome)
