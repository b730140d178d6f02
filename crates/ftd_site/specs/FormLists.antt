-- Links to forms: those of the page that lists them, and of the page of an account.
use Rattle.std.specs.Prelude.{ℕ, ◌==◌, List, [], ◌∷◌, ◌++◌, codes, length, if◌then◌else◌}
use Rattle.std.specs.List.{flat_map}
use Rattle.ftd_rules.specs.declared.Form.{Form}
use Rattle.ftd_rules.specs.declared.Form.TheVariants.{F941, F943}
use Rattle.ftd_verbs.specs.Rows.{row_of}
use Rattle.ftd_verbs.specs.declared.rows.Verb.{Verb}
use Rattle.ftd_verbs.specs.declared.rows.Verb.TheVariants as verb
use Rattle.ftd_site.specs.FormWords.{title_of}
use Rattle.ftd_pages.specs.Links.{address_in_page, link}
use Rattle.ftd_pages.specs.Pages.{page_of, titled}
use Rattle.ftd_pages.specs.declared.frames.Frame.{Frame}

-- the forms that name no account, or a new one, and those that name an account that files this
-- form: a total is that of a quarter on Form 941, and that of a year on Form 943
abbrev pub of_office : List Verb
of_office = verb.Enrol ∷ verb.Calendar ∷ verb.AddHoliday ∷ verb.ChangeHoliday ∷ []

abbrev pub of_account : Form → List Verb
of_account F941 =
    verb.Post ∷ verb.Pay ∷ verb.OpenYear ∷ verb.Report ∷ verb.Void ∷ verb.VoidPay
    ∷ verb.CorrectReport ∷ verb.CorrectAccount ∷ []
of_account F943 =
    verb.Post ∷ verb.Pay ∷ verb.OpenYear ∷ verb.ReportYear ∷ verb.Void ∷ verb.VoidPay
    ∷ verb.CorrectReportYear ∷ verb.CorrectAccount ∷ []

-- a link to the form of a verb, and to that with an account filled in
abbrev pub form_line : Verb → List ℕ
form_line verb =
    link (address_in_page (codes "/forms/" ∷ (row_of verb).command ∷ [])) (title_of verb)
    ++ codes "\n"

abbrev pub account_form_line : List ℕ → Verb → List ℕ
account_form_line account verb =
    link (address_in_page (codes "/forms/" ∷ (row_of verb).command ∷ codes "/" ∷ account ∷ []))
    (title_of verb) ++ codes "\n"

-- with the account filled in, if one is named
abbrev pub form_way : List ℕ → Verb → List ℕ
form_way account verb =
    if length account == 0 then form_line verb else account_form_line account verb

-- the links of the page of an account
abbrev pub account_form_lines : List ℕ → Form → List ℕ
account_form_lines account form = flat_map (account_form_line account) (of_account form)

unfoldable pub account_forms : List ℕ → Form → List ℕ
account_forms account form =
    codes "<nav aria-label=\"Enter\">\n" ++ (account_form_lines account form ++ codes "</nav>\n")

-- the page that links the forms that name no account, or a new one
abbrev pub office_start : List ℕ
office_start =
    codes "<h1>Enter</h1>\n<p>Pay runs, payments and totals are entered from the page of "
    ++ codes "their account, under Accounts.</p>\n<nav aria-label=\"Enter\">\n"

unfoldable pub office_forms : List ℕ
office_forms = office_start ++ (flat_map form_line of_office ++ codes "</nav>\n")

abbrev pub form_list : Frame → List ℕ
form_list frame = page_of frame [] (titled (codes "Enter" ∷ [])) office_forms
