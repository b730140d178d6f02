-- The page that says why a question is not answered.
use Rattle.std.specs.Prelude.{ℕ, List, [], ◌∷◌, ◌++◌, codes}
use Rattle.std.specs.Fmt.{decimal}
use Rattle.ftd_days.specs.Text.{quarter_text}
use Rattle.ftd_machine.specs.Refusals.{subject_of}
use Rattle.ftd_machine.specs.declared.replies.Refusal.{Refusal}
use Rattle.ftd_machine.specs.declared.replies.Refusal.TheVariants as refusal
use Rattle.ftd_machine.specs.declared.replies.Subject.{Subject}
use Rattle.ftd_machine.specs.declared.replies.Subject.TheVariants as subject
use Rattle.ftd_verbs.specs.declared.rows.Verb.TheVariants as verb
use Rattle.ftd_pages.specs.Pages.{page_of, titled}
use Rattle.ftd_pages.specs.Sections.{page_heading}
use Rattle.ftd_pages.specs.declared.frames.Frame.{Frame}
use Rattle.ftd_pages.specs.declared.frames.Ways.{Ways}
use Rattle.ftd_pages.specs.declared.frames.Ways.TheVariants.{Nowhere, From}
use Rattle.ftd_site.specs.FormLists.{account_form_line, form_line}
use Rattle.ftd_site.specs.declared.refusals.Remedy.{Remedy}
use Rattle.ftd_site.specs.declared.refusals.Remedy.TheVariants as remedy

-- ---- the sentence

-- what it says before what the refusal names, and after it
abbrev pub words_of : Refusal → List ℕ × List ℕ
words_of refusal.BadName = (codes "An account name is a lower-case letter, then letters, digits or hyphens.", [])
words_of refusal.BadYear = (codes "That year is out of range.", [])
words_of refusal.BadDay = (codes "That day is out of range.", [])
words_of refusal.BadCents = (codes "That amount is out of range.", [])
words_of refusal.BadCalendar = (codes "A year has at most 60 holidays, all in that year, in ascending order.", [])
words_of refusal.BadNumber = (codes "A number is 1 to 999,999,999.", [])
words_of refusal.UnknownAccount = (codes "There is no account of that name.", [])
words_of refusal.AccountDiffers = (codes "The account is enrolled otherwise.", [])
words_of refusal.CalendarDiffers = (codes "The holidays of that year were entered, and are others.", [])
words_of refusal.QuarterDiffers = (codes "The quarter is reported with another amount.", [])
words_of refusal.RunDiffers = (codes "Another pay run has that number.", [])
words_of refusal.PaymentDiffers = (codes "Another payment has that number.", [])
words_of refusal.UnknownRun = (codes "There is no pay run of that number.", [])
words_of refusal.UnknownPayment = (codes "There is no payment of that number.", [])
words_of refusal.BeforeStart = (codes "That is before the employer's first day.", [])
words_of (refusal.CalendarMissing x) = (codes "The holidays of ", codes " were not entered.")
words_of (refusal.QuarterMissing x) = (codes "The tax of ", codes " was not reported.")
words_of (refusal.YearNotOpen x) = (codes "The year ", codes " is not open for this account.")
words_of refusal.TooManyRuns = (codes "The account has 20,000 pay runs, and takes no more.", [])
words_of refusal.TooManyPayments = (codes "The account has 20,000 payments, and takes no more.", [])
words_of refusal.Memory = (codes "There was not enough memory.", [])
words_of refusal.Store = (codes "The desk's file can't be read or written.", [])
words_of refusal.WrongForm = (codes "That is not for the form that this account files.", [])
words_of refusal.YearDiffers = (codes "The year is reported with another amount.", [])
words_of (refusal.YearMissing x) = (codes "The tax of ", codes " was not reported.")
words_of refusal.CorrectionDiffers = (codes "Another correction has that number.", [])
words_of (refusal.NumberSkipped x) = (codes "The number is not the next one. Corrections so far: ", codes ".")
words_of refusal.NoHoliday = (codes "That day was not entered as a holiday.", [])
words_of refusal.AccountInUse = (codes "A total of the account is reported, or a year of it is open.", [])

-- the year, the quarter or the number that it names, if it names one
abbrev pub subject_text : Subject → List ℕ
subject_text subject.Nothing = []
subject_text (subject.Year year) = decimal year
subject_text (subject.Quarter quarter) = quarter_text quarter
subject_text (subject.Number number) = decimal number

-- the sentence as it stands in a page
abbrev pub sentence : Refusal → List ℕ
sentence r = titled ((words_of r).0 ∷ subject_text (subject_of r) ∷ (words_of r).1 ∷ [])

-- ---- what can be done about it

-- the form that helps: that of a verb, or that of a verb with the account filled in
abbrev pub remedy_of : Refusal → Remedy
remedy_of refusal.UnknownAccount = remedy.AccountForm verb.Enrol
remedy_of (refusal.CalendarMissing year) = remedy.Form verb.Calendar
remedy_of (refusal.QuarterMissing quarter) = remedy.AccountForm verb.Report
remedy_of (refusal.YearMissing year) = remedy.AccountForm verb.ReportYear
remedy_of (refusal.YearNotOpen year) = remedy.AccountForm verb.OpenYear
remedy_of other = remedy.Nothing

-- a paragraph with the link to a form
unfoldable pub linked_paragraph : List ℕ → List ℕ
linked_paragraph line = codes "<p>" ++ (line ++ codes "</p>\n")

abbrev pub remedy_text : List ℕ → Remedy → List ℕ
remedy_text account remedy.Nothing = []
remedy_text account (remedy.Form verb) = linked_paragraph (form_line verb)
remedy_text account (remedy.AccountForm verb) =
    linked_paragraph (account_form_line account verb)

-- on a page without ways there is no link
abbrev pub remedy_part : Ways → List ℕ → Refusal → List ℕ
remedy_part Nowhere account r = []
remedy_part (From today until) account r = remedy_text account (remedy_of r)

-- ---- the page

-- the account that the page is of: the one that is named, where there is one of that name
abbrev pub account_of : List ℕ → Refusal → List ℕ
account_of account refusal.BadName = []
account_of account refusal.UnknownAccount = []
account_of account other = account

-- the sentence is the heading of the page, and below it is the link to the form that helps
unfoldable pub refused_part : List ℕ → Ways → List ℕ → Refusal → List ℕ
refused_part title ways account r = page_heading title ++ remedy_part ways account r

-- the page with this heading, which is its title too
abbrev pub refused_under : List ℕ → Frame → List ℕ → Refusal → List ℕ
refused_under title frame account r =
    page_of frame (account_of account r) title (refused_part title frame.ways account r)

-- the page that says why a question is not answered that names this account, or none
abbrev pub refused_page : Frame → List ℕ → Refusal → List ℕ
refused_page frame account r = refused_under (sentence r) frame account r
