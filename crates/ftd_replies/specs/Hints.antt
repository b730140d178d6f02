-- What can be done about a refusal: lines below it, each of which begins with `hint: `.
use Rattle.std.specs.Prelude.{ℕ, ◌+◌, ◌++◌, not, List, [], ◌∷◌, Option, None, Some, codes, find}
use Rattle.std.specs.Prelude.{unwrap_or}
use Rattle.std.specs.Fmt.{decimal}
use Rattle.std.specs.List.{concat, flat_map}
use Rattle.ftd_days.specs.Business.{is_holiday}
use Rattle.ftd_days.specs.Text.{day_text, quarter_text}
use Rattle.ftd_machine.specs.declared.replies.Refusal.{Refusal}
use Rattle.ftd_machine.specs.declared.replies.Refusal.TheVariants as refusal
use Rattle.ftd_machine.specs.Questions.{account_asked}
use Rattle.ftd_machine.specs.declared.requests.Request.{Request}
use Rattle.ftd_machine.specs.declared.requests.Request.TheVariants as request
use Rattle.ftd_machine.specs.declared.requests.Entry.{Entry}
use Rattle.ftd_machine.specs.declared.requests.Entry.TheVariants as entry
use Rattle.ftd_machine.specs.declared.requests.Correction.TheVariants as correction
use Rattle.ftd_machine.specs.declared.entries.ReturnPeriod.{ReturnPeriod}
use Rattle.ftd_machine.specs.declared.entries.ReturnPeriod.TheVariants.{Quarter, Year}
use Rattle.ftd_replies.specs.Questions.{paydays_years, calendars_years, years_asked}
use Rattle.ftd_replies.specs.Questions.{paydays_days, days_asked}
use Rattle.ftd_replies.specs.Commands.{command_of, command_on, file_text}
use Rattle.ftd_replies.specs.Enrolment.{enrolment_text}
use Rattle.ftd_replies.specs.Refusals.{refusal_text}
use Rattle.ftd_replies.specs.declared.hints.Hint.{Hint}
use Rattle.ftd_replies.specs.declared.hints.Hint.TheVariants as hint
use Rattle.ftd_replies.specs.declared.hints.HintFacts.{HintFacts}
use Rattle.ftd_replies.specs.declared.hints.HintFacts.TheVariants.{Nothing, Missing, Given, Begins}
use Rattle.ftd_replies.specs.Differing.{difference_text}
use Rattle.ftd_replies.specs.declared.hints.HintFacts.TheVariants.{Meant, Differs, Enrolled}

-- the account that a request names, the empty text where it names none; and the number of its run
-- or payment
abbrev pub account_in : Request → List ℕ
account_in (request.Enter (entry.Account name account)) = name
account_in (request.Enter (entry.Calendar year days)) = []
account_in (request.Enter (entry.Holiday day)) = []
account_in (request.Enter (entry.Total account period cents)) = account
account_in (request.Enter (entry.Year account year)) = account
account_in (request.Post account number run) = account
account_in (request.Void account number) = account
account_in (request.Pay account number payment) = account
account_in (request.VoidPay account number) = account
account_in (request.Correct number (correction.Total account period cents)) = account
account_in (request.Correct number (correction.Holiday day is_holiday)) = []
account_in (request.Correct number (correction.Account account beginning)) = account
account_in (request.Question asked) = unwrap_or (account_asked asked) []

abbrev pub number_in : Request → ℕ
number_in (request.Post account number run) = number
number_in (request.Pay account number payment) = number
number_in other = 0

-- ---- what is said of a refusal that names nothing, by the request

abbrev totals_years : List ℕ
totals_years = codes "hint: the years of reported totals are 1999 to 2098\n"

abbrev pub years_text : Request → List ℕ
years_text (request.Enter (entry.Calendar year days)) = calendars_years
years_text (request.Enter (entry.Total account period cents)) = totals_years
years_text (request.Correct number (correction.Total account period cents)) = totals_years
years_text (request.Question question) = years_asked question
years_text other = paydays_years

abbrev first_days : List ℕ
first_days = codes "hint: an employer's first day is not after 2098-12-31\n"

abbrev holidays_days : List ℕ
holidays_days = codes "hint: the days of holidays are those of 2001 to 2099\n"

abbrev pub days_text : Request → List ℕ
days_text (request.Enter (entry.Account name account)) = first_days
days_text (request.Enter (entry.Holiday day)) = holidays_days
days_text (request.Pay account number payment) =
    codes "hint: a payment is made in 2001 to 2099, for a day of 2001 to 2098\n"
days_text (request.Correct number (correction.Holiday day is_holiday)) = holidays_days
days_text (request.Correct number (correction.Account account beginning)) = first_days
days_text (request.Question asked) = days_asked asked
days_text other = paydays_days

abbrev calendar_days : List ℕ
calendar_days = codes "hint: give at most 60 days, all in that year, in ascending order\n"

abbrev pub calendar_text : Request → List ℕ
calendar_text (request.Enter (entry.Holiday day)) = codes "hint: a year has at most 60 holidays\n"
calendar_text other = calendar_days

abbrev no_schedule_b : List ℕ
no_schedule_b = codes "hint: this account files Form 943, which has no Schedule B\n"

abbrev pub form_text : Request → List ℕ
form_text (request.Enter (entry.Total account (Quarter quarter) cents)) =
    codes "hint: this account files Form 943: use ftd report-year\n"
form_text (request.Enter (entry.Total account (Year year) cents)) =
    codes "hint: this account files Form 941: use ftd report\n"
form_text (request.Correct number (correction.Total account (Quarter quarter) cents)) =
    codes "hint: this account files Form 943: use ftd correct-report-year\n"
form_text (request.Correct number (correction.Total account (Year year) cents)) =
    codes "hint: this account files Form 941: use ftd correct-report\n"
form_text other = no_schedule_b

-- what is said of a refusal that no command mends; nothing of the others
unfoldable pub said_text : Request → Refusal → List ℕ
said_text asked refusal.BadName =
    codes "hint: names have 1 to 20 lower-case letters, digits and hyphens, a letter first\n"
said_text asked refusal.BadYear = years_text asked
said_text asked refusal.BadDay = days_text asked
said_text asked refusal.BadCents =
    codes "hint: an amount is at most 999999999.99, and a payment at least 0.01\n"
said_text asked refusal.BadCalendar = calendar_text asked
said_text asked refusal.BadNumber = codes "hint: numbers are 1 to 999999999\n"
said_text asked refusal.CalendarDiffers = codes "hint: ftd add-holiday adds a holiday\n"
said_text asked refusal.UnknownRun = codes "hint: the account has no run of this number\n"
said_text asked refusal.UnknownPayment =
    codes "hint: the account has no payment of this number\n"
said_text asked refusal.BeforeStart = codes "hint: that is before the employer's first day\n"
said_text asked refusal.TooManyRuns =
    codes "hint: an account has at most 20000 runs, void ones too\n"
said_text asked refusal.TooManyPayments =
    codes "hint: an account has at most 20000 payments, void ones too\n"
said_text asked refusal.WrongForm = form_text asked
said_text asked refusal.CorrectionDiffers =
    codes "hint: take the next number, or leave it out\n"
said_text asked refusal.NoHoliday =
    codes "hint: the day was never a holiday; ftd add-holiday adds one\n"
said_text asked refusal.AccountInUse =
    codes "hint: a total is reported, or a year is open; enrol a new account by another name\n"
said_text asked other = []

-- ---- the hint of a refusal: a command that mends it, or what is said of it

-- the quarter is to be reported
abbrev pub quarter_hint : List ℕ → List ℕ → ℕ → List ℕ
quarter_hint db account quarter =
    command_of (codes "hint: ftd report --db ") db account (quarter_text quarter)
    (codes " AMOUNT\n")

-- what stands behind the account in the command that enrols it: the form, where a year's total is
-- reported, which is one of Form 943
abbrev pub enrolled_as : Request → List ℕ
enrolled_as (request.Enter (entry.Total account (Year year) cents)) = codes " START --form 943\n"
enrolled_as (request.Correct number (correction.Total account (Year year) cents)) =
    codes " START --form 943\n"
enrolled_as other = codes " START\n"

-- the command that corrects what is known otherwise: the first day of an account, and whether it is
-- carried, or a reported total
abbrev enrolled_otherwise : List ℕ
enrolled_otherwise =
    codes "hint: the account has another first day or form, or is carried otherwise\n"
    ++ codes "hint: for another form, or if a total is reported or a year is open, "
    ++ codes "enrol a new account by another name\n"
    ++ codes "hint: else, to correct its first day or carried, ftd correct-account --db "

abbrev quarter_otherwise : List ℕ
quarter_otherwise =
    codes "hint: the quarter is reported with another amount\n"
    ++ codes "hint: if that is wrong, ftd correct-report --db "

abbrev year_otherwise : List ℕ
year_otherwise =
    codes "hint: the year is reported with another amount\n"
    ++ codes "hint: if that is wrong, ftd correct-report-year --db "

abbrev pub total_otherwise : List ℕ → List ℕ → ReturnPeriod → List ℕ
total_otherwise db account (Quarter quarter) =
    command_of quarter_otherwise db account (quarter_text quarter) (codes " AMOUNT\n")
total_otherwise db account (Year year) =
    command_of year_otherwise db account (decimal year) (codes " AMOUNT\n")

abbrev pub entry_otherwise : List ℕ → Entry → List ℕ
entry_otherwise db (entry.Account name account) =
    command_on enrolled_otherwise db name (codes " START\n")
entry_otherwise db (entry.Total account period cents) = total_otherwise db account period
entry_otherwise db other = []

abbrev pub correct_text : List ℕ → Request → List ℕ
correct_text db (request.Enter entered) = entry_otherwise db entered
correct_text db other = []

-- the next number, where there are so many
abbrev pub next_text : ℕ → List ℕ
next_text count =
    concat
    (codes "hint: the next number is " ∷ decimal (count + 1)
    ∷ codes "; leave out --number to use it\n" ∷ [])

-- which command mends a refusal, with the year or the quarter that it is for; where none does,
-- something is said of it
unfoldable pub hint_of : Refusal → Hint
hint_of refusal.UnknownAccount = hint.Enrol
hint_of refusal.RunDiffers = hint.Void
hint_of refusal.PaymentDiffers = hint.VoidPay
hint_of (refusal.CalendarMissing year) = hint.Calendar year
hint_of (refusal.QuarterMissing quarter) = hint.Report quarter
hint_of (refusal.YearNotOpen year) = hint.OpenYear year
hint_of (refusal.YearMissing year) = hint.ReportYear year
hint_of refusal.AccountDiffers = hint.Correct
hint_of refusal.QuarterDiffers = hint.Correct
hint_of refusal.YearDiffers = hint.Correct
hint_of (refusal.NumberSkipped count) = hint.Next count
hint_of other = hint.Said

-- the command, or what is said
abbrev pub mended_text : List ℕ → Request → Refusal → Hint → List ℕ
mended_text db asked refusal hint.Said = said_text asked refusal
mended_text db asked refusal hint.Enrol =
    command_on (codes "hint: if name and file are right, ftd enrol --db ") db (account_in asked)
    (enrolled_as asked)
mended_text db asked refusal hint.Void =
    command_of (codes "hint: take a new number; if the run that has it is wrong, ftd void --db ") db
    (account_in asked) (decimal (number_in asked)) (codes "\n")
mended_text db asked refusal hint.VoidPay =
    command_of (codes "hint: take a new number; if that payment is wrong, ftd void-pay --db ") db
    (account_in asked) (decimal (number_in asked)) (codes "\n")
mended_text db asked refusal (hint.Calendar year) =
    command_on (codes "hint: ftd calendar --db ") db (decimal year) (codes " DAY ..\n")
mended_text db asked refusal (hint.Report quarter) = quarter_hint db (account_in asked) quarter
mended_text db asked refusal (hint.ReportYear year) =
    command_of (codes "hint: ftd report-year --db ") db (account_in asked) (decimal year)
    (codes " AMOUNT\n")
mended_text db asked refusal (hint.OpenYear year) =
    command_of (codes "hint: ftd open-year --db ") db (account_in asked) (decimal year)
    (codes "\n")
mended_text db asked refusal hint.Correct = correct_text db asked
mended_text db asked refusal (hint.Next count) = next_text count

unfoldable pub hint_text : List ℕ → Request → Refusal → List ℕ
hint_text db asked refusal = mended_text db asked refusal (hint_of refusal)

-- ---- with what was asked of the desk

-- the days of a request's calendar
abbrev pub days_in : Request → List ℕ
days_in (request.Enter (entry.Calendar year days)) = days
days_in other = []

-- the first of the days that is not among those
abbrev pub first_beside : List ℕ → List ℕ → Option ℕ
first_beside days those = find (λ day. not (is_holiday those day)) days

-- a holiday that is new, and one that was given and is left out, which can be taken back
abbrev pub new_text : List ℕ → Option ℕ → List ℕ
new_text db None = []
new_text db (Some day) =
    command_on (codes "hint: one more holiday is ftd add-holiday --db ") db (day_text day)
    (codes "\n")

abbrev pub left_out_text : List ℕ → Option ℕ → List ℕ
left_out_text db None = []
left_out_text db (Some day) =
    concat
    (codes "hint: " ∷ day_text day
    ∷ codes " was given too\nhint: if it is no holiday, ftd change-holiday --db " ∷ file_text db
    ∷ codes " " ∷ day_text day ∷ codes " no\n" ∷ [])

-- what differs between the days of a calendar and those that were given before
abbrev pub differing_text : List ℕ → List ℕ → List ℕ → List ℕ
differing_text db days given =
    new_text db (first_beside days given) ++ left_out_text db (first_beside given days)

-- the first of the account's years
abbrev pub first_text : ℕ → List ℕ
first_text first =
    concat
    (codes "hint: the account's first year is " ∷ decimal first
    ∷ codes ": none before it can be opened\n" ∷ [])

-- the account that may be meant by a name that is unknown
abbrev pub meant_line : List ℕ → List ℕ
meant_line name = concat (codes "hint: is " ∷ name ∷ codes " meant?\n" ∷ [])

-- the hints of a refusal, with what is known for them
unfoldable pub hints_text : List ℕ → Request → Refusal → HintFacts → List ℕ
hints_text db asked refusal Nothing = hint_text db asked refusal
hints_text db asked refusal (Missing quarters) =
    flat_map (quarter_hint db (account_in asked)) quarters.items
hints_text db asked refusal (Given given) = differing_text db (days_in asked) given.items
hints_text db asked refusal (Begins first) = first_text first
hints_text db asked refusal (Meant name) = meant_line name ++ hint_text db asked refusal
hints_text db asked refusal (Enrolled enrolment) = enrolment_text db (account_in asked) enrolment
hints_text db asked refusal (Differs differing) =
    codes "hint: " ++ (difference_text differing ++ (codes "\n" ++ hint_text db asked refusal))

-- the line of a refusal, and its hints below it
unfoldable pub told_text : List ℕ → Request → Refusal → HintFacts → List ℕ
told_text db asked refusal known = refusal_text refusal ++ hints_text db asked refusal known
