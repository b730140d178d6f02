-- The links from the page of an account to its lists and forms.
use Rattle.std.specs.Prelude.{ℕ, List, [], ◌∷◌, ◌++◌, codes}
use Rattle.std.specs.List.{flat_map}
use Rattle.ftd_days.specs.Calendar.{quarter_of}
use Rattle.ftd_days.specs.Text.{day_text, quarter_text}
use Rattle.ftd_rules.specs.declared.Form.{Form}
use Rattle.ftd_rules.specs.declared.Form.TheVariants.{F941, F943}
use Rattle.ftd_site.specs.FormLists.{account_forms}
use Rattle.ftd_pages.specs.Links.{address_in_page, link}
use Rattle.ftd_site.specs.declared.accounts.AccountList.{AccountList}
use Rattle.ftd_site.specs.declared.accounts.AccountList.TheVariants.{Years, Reported, Due}
use Rattle.ftd_site.specs.declared.accounts.AccountList.TheVariants.{ScheduleB, Runs, Payments}
use Rattle.ftd_pages.specs.declared.frames.Ways.{Ways}
use Rattle.ftd_pages.specs.declared.frames.Ways.TheVariants.{Nowhere, From}

-- a list of an account, and one of a quarter: the paths of the list stand around the account
abbrev pub list_address : List ℕ → List ℕ → List ℕ
list_address account path = address_in_page (codes "/lists/accounts/" ∷ account ∷ path ∷ [])

abbrev pub quarter_address : List ℕ → List ℕ → List ℕ → ℕ → List ℕ
quarter_address start account path quarter =
    address_in_page (start ∷ account ∷ path ∷ quarter_text quarter ∷ codes "/html" ∷ [])

-- the due list of a quarter as of a day
abbrev pub due_list_address : List ℕ → ℕ → ℕ → List ℕ
due_list_address account quarter as_of =
    address_in_page (codes "/accounts/" ∷ account ∷ codes "/due/" ∷ quarter_text quarter
    ∷ codes "/" ∷ day_text as_of ∷ codes "/html" ∷ [])

-- a link to a list of an account: what changes from quarter to quarter is of the quarter of today
abbrev pub list_link : List ℕ → ℕ → AccountList → List ℕ
list_link account today Years =
    link (list_address account (codes "/years/html")) (codes "Open years")
list_link account today Reported =
    link (list_address account (codes "/reported/html")) (codes "Reported totals")
list_link account today Due =
    link (due_list_address account (quarter_of today) today) (codes "Due list")
list_link account today ScheduleB =
    link (quarter_address (codes "/accounts/") account (codes "/schedule-b/") (quarter_of today))
    (codes "Schedule B (Form 941)")
list_link account today Runs =
    link (quarter_address (codes "/lists/accounts/") account (codes "/runs/") (quarter_of today))
    (codes "Pay runs")
list_link account today Payments =
    link (quarter_address (codes "/lists/accounts/") account (codes "/payments/")
    (quarter_of today)) (codes "Payments")

abbrev pub list_line : List ℕ → ℕ → AccountList → List ℕ
list_line account today list = list_link account today list ++ codes "\n"

-- the lists of an account that files this form: Form 943 has no Schedule B
abbrev pub lists_of : Form → List AccountList
lists_of F941 = Years ∷ Reported ∷ Due ∷ ScheduleB ∷ Runs ∷ Payments ∷ []
lists_of F943 = Years ∷ Reported ∷ Due ∷ Runs ∷ Payments ∷ []

abbrev pub list_lines : List ℕ → ℕ → Form → List ℕ
list_lines account today form = flat_map (list_line account today) (lists_of form)

-- the links to the lists of an account
unfoldable pub account_nav : List ℕ → Form → ℕ → List ℕ
account_nav account form today =
    codes "<nav aria-label=\"Account\">\n" ++ (list_lines account today form ++ codes "</nav>\n")

-- these, and the links to the forms that name the account
abbrev pub account_links : List ℕ → Form → ℕ → List ℕ
account_links account form today = account_nav account form today ++ account_forms account form

-- on a page without ways there are none
abbrev pub account_ways : Ways → List ℕ → Form → List ℕ
account_ways Nowhere account form = []
account_ways (From today until) account form = account_links account form today
