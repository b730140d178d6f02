-- What the command of each hint asks.
use Rattle.std.proofs.Common.{◌≡◌, ◌<◌, ◌/◌, ℕ, Bool, true, false, List, [], ◌∷◌, ◌++◌, map, Some}
use Rattle.std.proofs.Common.{arith, option_map, refl, sym, ap, ◌∙◌, subst}
use Rattle.std.specs.Prelude.{codes}
use Rattle.std.specs.Fmt.{decimal}
use Rattle.std.specs.List.{concat}
use Rattle.clap.specs.Words.{Text}
use Rattle.ftd_cli.specs.Tasks.{command_named, named_command}
use Rattle.ftd_cli.specs.Words.{amount_of}
use Rattle.ftd_cli.specs.declared.table.Name.TheVariants as name
use Rattle.ftd_days.specs.Calendar.{year_of}
use Rattle.ftd_days.specs.Digits.{digit}
use Rattle.ftd_days.specs.Spelling.{day_of}
use Rattle.ftd_days.specs.Text.{day_text, quarter_text}
use Rattle.ftd_days.specs.declared.cents.Cents.{Cents}
use Rattle.ftd_days.specs.declared.limits.TheConstants.{QUARTERS}
use Rattle.ftd_days.proofs.Years.{eq_not}
use Rattle.ftd_rules.specs.declared.Form.{Form}
use Rattle.ftd_rules.specs.declared.Form.TheVariants.{F941, F943}
use Rattle.ftd_machine.specs.Requests.{is_form}
use Rattle.ftd_machine.specs.declared.entries.Account.{Account}
use Rattle.ftd_machine.specs.declared.entries.ReturnPeriod.TheVariants.{Quarter, Year}
use Rattle.ftd_machine.specs.declared.replies.Refusal.TheVariants as refusal
use Rattle.ftd_machine.specs.declared.requests.Correction.TheVariants as correction
use Rattle.ftd_machine.specs.declared.requests.Entry.TheVariants as entry
use Rattle.ftd_machine.specs.declared.requests.Request.{Request}
use Rattle.ftd_machine.specs.declared.requests.Request.TheVariants as request
use Rattle.ftd_verbs.specs.declared.rows.Verb.TheVariants as verb
use Rattle.ftd_replies.proofs.ReadBack.{quarter_back}
use Rattle.ftd_replies.specs.Below.{already_hint}
use Rattle.ftd_replies.specs.Commands.{command_on, file_text}
use Rattle.ftd_replies.specs.Enrolment.{advice_text, correction_text}
use Rattle.ftd_replies.specs.Hints.{account_in, enrolled_as, hint_of, hint_text, left_out_text}
use Rattle.ftd_replies.specs.Hints.{new_text, number_in, quarter_hint, said_text}
use Rattle.ftd_replies.specs.LineLaws.{IsDay, IsName, IsNumber}
use Rattle.ftd_replies.specs.LineRequests.{value_as}
use Rattle.ftd_replies.specs.declared.enrolment.Enrolment.{Enrolment}
use Rattle.ftd_hinted.specs.Hinted.{AreDays, Ask, IsFile, Shows, ShowsWhole, begun, beginning_of}
use Rattle.ftd_hinted.specs.Hinted.{command_in, form_meant, from_program, of_desk, under_next}
use Rattle.ftd_hinted.specs.Hinted.{verb_meant}
use Rattle.ftd_hinted.specs.Hinted.{words_in}
use Rattle.ftd_hinted.proofs.HintDays.{calendar_asks}
use Rattle.ftd_hinted.proofs.HintShown.{opening, shows, shows_of, shows_on}
use Rattle.ftd_hinted.proofs.HintValues.{day_spells, day_word, days_spell, name_word}
use Rattle.ftd_hinted.proofs.HintValues.{number_word, quarter_word, value_spells}
use Rattle.ftd_hinted.proofs.HintVerbs.{add_holiday_asks, change_holiday_asks, correct_account_asks}
use Rattle.ftd_hinted.proofs.HintVerbs.{correct_report_asks, correct_report_year_asks, enrol_asks}
use Rattle.ftd_hinted.proofs.HintVerbs.{open_year_asks, report_asks, report_year_asks, void_asks}
use Rattle.ftd_hinted.proofs.HintVerbs.{void_pay_asks}
use Rattle.ftd_hinted.proofs.HintWords.{file_shown, next_word, shown_plain}
use Rattle.ftd_replies.proofs.Walked.{place, text_of}

-- ---- what is missing

pub open_year_hint : (asked : Request) (db : List ℕ) (year : ℕ) → IsFile db
    → IsName (account_in asked) → IsNumber year
    → ShowsWhole db (hint_text db asked (refusal.YearNotOpen year))
    (of_desk db (request.Enter (entry.Year (account_in asked) year)))
unfolding hint_text hint_of
open_year_hint asked db year f a y =
    let account = name_word (account_in asked) a in
    let number = number_word year y in
    shows_of db (codes "hint: ftd open-year --db ") verb.OpenYear 10 [] [] [] [] _ f
    (record { plain = refl; opens = λ rest. refl }) refl refl refl
    (account_in asked) (decimal year) account number.word_is
    (open_year_asks db (account_in asked) (decimal year) year f account number)

-- the words of days are those that stand there
texts_back : (words : List Text) → map text_of (map place words) ≡ words ++ []
texts_back [] = refl
texts_back (word ∷ words) = ap (λ ws. word ∷ ws) (texts_back words)

pub calendar_hint : (asked : Request) (db : List ℕ) (year : ℕ) (words : List Text)
    (days : List ℕ) → IsFile db → IsNumber year → AreDays words days
    → Shows db (hint_text db asked (refusal.CalendarMissing year))
    (codes "DAY" ∷ codes ".." ∷ []) words
    (of_desk db (request.Enter (entry.Calendar year days)))
unfolding hint_text hint_of
calendar_hint asked db year words days f y d =
    let number = number_word year y in
    let spell = days_spell words days d in
    let wanted = of_desk db (request.Enter (entry.Calendar year days)) in
    shows_on db (codes "hint: ftd calendar --db ") verb.Calendar 32 (codes "DAY ..\n") []
    (codes "DAY" ∷ codes ".." ∷ []) words wanted f
    (record { plain = refl; opens = λ rest. refl }) refl refl refl
    (decimal year) number.word_is
    (subst (λ ws. Ask (opening verb.Calendar ++ db ∷ decimal year ∷ ws) wanted) (texts_back words)
    (calendar_asks db (decimal year) words year days f number spell.0 spell.1))

pub each_quarter_hint : (account db : List ℕ) (quarter : ℕ) (amount : Text) (cents : Cents)
    → IsFile db → IsName account → quarter < QUARTERS → value_as amount_of amount ≡ Some cents
    → Shows db (quarter_hint db account quarter) (codes "AMOUNT" ∷ []) (amount ∷ [])
    (of_desk db (request.Enter (entry.Total account (Quarter quarter) cents)))
each_quarter_hint account db quarter amount cents f a q c =
    let name = name_word account a in
    let word = quarter_word quarter in
    shows_of db (codes "hint: ftd report --db ") verb.Report 32 (codes "AMOUNT\n") []
    (codes "AMOUNT" ∷ []) (amount ∷ []) _ f
    (record { plain = refl; opens = λ rest. refl }) refl refl refl
    account (quarter_text quarter) name word
    (report_asks db account (quarter_text quarter) quarter amount cents f name word
    (quarter_back quarter q) (value_spells amount_of amount cents c))

pub report_hint : (asked : Request) (db : List ℕ) (quarter : ℕ) (amount : Text) (cents : Cents)
    → IsFile db → IsName (account_in asked) → quarter < QUARTERS
    → value_as amount_of amount ≡ Some cents
    → Shows db (hint_text db asked (refusal.QuarterMissing quarter)) (codes "AMOUNT" ∷ [])
    (amount ∷ [])
    (of_desk db (request.Enter (entry.Total (account_in asked) (Quarter quarter) cents)))
unfolding hint_text hint_of
report_hint asked db quarter amount cents f a q c =
    each_quarter_hint (account_in asked) db quarter amount cents f a q c

pub report_year_hint : (asked : Request) (db : List ℕ) (year : ℕ) (amount : Text) (cents : Cents)
    → IsFile db → IsName (account_in asked) → IsNumber year
    → value_as amount_of amount ≡ Some cents
    → Shows db (hint_text db asked (refusal.YearMissing year)) (codes "AMOUNT" ∷ [])
    (amount ∷ [])
    (of_desk db (request.Enter (entry.Total (account_in asked) (Year year) cents)))
unfolding hint_text hint_of
report_year_hint asked db year amount cents f a y c =
    let account = name_word (account_in asked) a in
    let number = number_word year y in
    shows_of db (codes "hint: ftd report-year --db ") verb.ReportYear 32 (codes "AMOUNT\n") []
    (codes "AMOUNT" ∷ []) (amount ∷ []) _ f
    (record { plain = refl; opens = λ rest. refl }) refl refl refl
    (account_in asked) (decimal year) account number.word_is
    (report_year_asks db (account_in asked) (decimal year) year amount cents f account number
    (value_spells amount_of amount cents c))

-- what stands behind the account where it is to be enrolled, by its form
abbrev ends_with : Form → List ℕ
ends_with F941 = codes " START\n"
ends_with F943 = codes " START --form 943\n"

form_ends : (asked : Request) → enrolled_as asked ≡ ends_with (form_meant asked)
form_ends (request.Enter (entry.Account name account)) = refl
form_ends (request.Enter (entry.Calendar year days)) = refl
form_ends (request.Enter (entry.Holiday day)) = refl
form_ends (request.Enter (entry.Total account (Quarter quarter) cents)) = refl
form_ends (request.Enter (entry.Total account (Year year) cents)) = refl
form_ends (request.Enter (entry.Year account year)) = refl
form_ends (request.Post account number run) = refl
form_ends (request.Void account number) = refl
form_ends (request.Pay account number payment) = refl
form_ends (request.VoidPay account number) = refl
form_ends (request.Correct number (correction.Total account (Quarter quarter) cents)) = refl
form_ends (request.Correct number (correction.Total account (Year year) cents)) = refl
form_ends (request.Correct number (correction.Holiday day is_holiday)) = refl
form_ends (request.Correct number (correction.Account account beginning)) = refl
form_ends (request.Question asked) = refl

abbrev enrol_opens : List ℕ
enrol_opens = codes "hint: if name and file are right, ftd enrol --db "

enrol_shown : (db name : List ℕ) (form : Form) (start : Text) (day : ℕ) → IsFile db
    → IsName name → value_as day_of start ≡ Some day
    → Shows db (command_on enrol_opens db name (ends_with form)) (codes "START" ∷ []) (start ∷ [])
    (of_desk db (request.Enter (entry.Account name (begun day form))))
enrol_shown db name F941 start day f a d =
    let account = name_word name a in
    shows_on db enrol_opens verb.Enrol 32 (codes "START\n") [] (codes "START" ∷ []) (start ∷ []) _ f
    (record { plain = refl; opens = λ rest. refl }) refl refl refl name account
    (enrol_asks db name start day F941 f account (value_spells day_of start day d))
enrol_shown db name F943 start day f a d =
    let account = name_word name a in
    shows_on db enrol_opens verb.Enrol 32 (codes "START --form 943\n")
    (codes "--form" ∷ codes "943" ∷ []) (codes "START" ∷ []) (start ∷ []) _ f
    (record { plain = refl; opens = λ rest. refl }) refl refl refl name account
    (enrol_asks db name start day F943 f account (value_spells day_of start day d))

pub enrol_hint : (asked : Request) (db : List ℕ) (start : Text) (day : ℕ) → IsFile db
    → IsName (account_in asked) → value_as day_of start ≡ Some day
    → Shows db (hint_text db asked refusal.UnknownAccount) (codes "START" ∷ []) (start ∷ [])
    (of_desk db (request.Enter (entry.Account (account_in asked) (begun day (form_meant asked)))))
unfolding hint_text hint_of
enrol_hint asked db start day f a d =
    subst (λ end. Shows db (command_on enrol_opens db (account_in asked) end) (codes "START" ∷ [])
    (start ∷ [])
    (of_desk db (request.Enter (entry.Account (account_in asked) (begun day (form_meant asked))))))
    (sym (form_ends asked))
    (enrol_shown db (account_in asked) (form_meant asked) start day f a d)

-- ---- what has the number

pub void_hint : (asked : Request) (db : List ℕ) → IsFile db → IsName (account_in asked)
    → IsNumber (number_in asked)
    → ShowsWhole db (hint_text db asked refusal.RunDiffers)
    (of_desk db (request.Void (account_in asked) (number_in asked)))
unfolding hint_text hint_of
void_hint asked db f a n =
    let account = name_word (account_in asked) a in
    let number = number_word (number_in asked) n in
    shows_of db (codes "hint: take a new number; if the run that has it is wrong, ftd void --db ")
    verb.Void 10 [] [] [] [] _ f
    (record { plain = refl; opens = λ rest. refl }) refl refl refl
    (account_in asked) (decimal (number_in asked)) account number.word_is
    (void_asks db (account_in asked) (decimal (number_in asked)) (number_in asked) f account number)

pub void_pay_hint : (asked : Request) (db : List ℕ) → IsFile db → IsName (account_in asked)
    → IsNumber (number_in asked)
    → ShowsWhole db (hint_text db asked refusal.PaymentDiffers)
    (of_desk db (request.VoidPay (account_in asked) (number_in asked)))
unfolding hint_text hint_of
void_pay_hint asked db f a n =
    let account = name_word (account_in asked) a in
    let number = number_word (number_in asked) n in
    shows_of db (codes "hint: take a new number; if that payment is wrong, ftd void-pay --db ")
    verb.VoidPay 10 [] [] [] [] _ f
    (record { plain = refl; opens = λ rest. refl }) refl refl refl
    (account_in asked) (decimal (number_in asked)) account number.word_is
    (void_pay_asks db (account_in asked) (decimal (number_in asked)) (number_in asked) f account
    number)

-- ---- what is known otherwise

pub correct_report_hint : (account db : List ℕ) (quarter : ℕ) (given cents : Cents)
    (amount : Text) → IsFile db → IsName account → quarter < QUARTERS
    → value_as amount_of amount ≡ Some cents
    → Shows db (hint_text db (request.Enter (entry.Total account (Quarter quarter) given))
    refusal.QuarterDiffers) (codes "AMOUNT" ∷ []) (amount ∷ [])
    (under_next db (correction.Total account (Quarter quarter) cents))
unfolding hint_text hint_of
correct_report_hint account db quarter given cents amount f a q c =
    let name = name_word account a in
    let word = quarter_word quarter in
    shows_of db (codes "hint: the quarter is reported with another amount\n"
    ++ codes "hint: if that is wrong, ftd correct-report --db ") verb.CorrectReport 32
    (codes "AMOUNT\n") [] (codes "AMOUNT" ∷ []) (amount ∷ []) _ f
    (record { plain = refl; opens = λ rest. refl }) refl refl refl
    account (quarter_text quarter) name word
    (correct_report_asks db account (quarter_text quarter) quarter amount cents f name word
    (quarter_back quarter q) (value_spells amount_of amount cents c))

pub correct_report_year_hint : (account db : List ℕ) (year : ℕ) (given cents : Cents)
    (amount : Text) → IsFile db → IsName account → IsNumber year
    → value_as amount_of amount ≡ Some cents
    → Shows db (hint_text db (request.Enter (entry.Total account (Year year) given))
    refusal.YearDiffers) (codes "AMOUNT" ∷ []) (amount ∷ [])
    (under_next db (correction.Total account (Year year) cents))
unfolding hint_text hint_of
correct_report_year_hint account db year given cents amount f a y c =
    let name = name_word account a in
    let number = number_word year y in
    shows_of db (codes "hint: the year is reported with another amount\n"
    ++ codes "hint: if that is wrong, ftd correct-report-year --db ") verb.CorrectReportYear 32
    (codes "AMOUNT\n") [] (codes "AMOUNT" ∷ []) (amount ∷ []) _ f
    (record { plain = refl; opens = λ rest. refl }) refl refl refl
    account (decimal year) name number.word_is
    (correct_report_year_asks db account (decimal year) year amount cents f name number
    (value_spells amount_of amount cents c))

pub correct_account_hint : (name db : List ℕ) (given : Account) (start : Text) (day : ℕ)
    → IsFile db → IsName name → value_as day_of start ≡ Some day
    → Shows db (hint_text db (request.Enter (entry.Account name given)) refusal.AccountDiffers)
    (codes "START" ∷ []) (start ∷ [])
    (under_next db (correction.Account name (record { start = day; carried = false })))
unfolding hint_text hint_of
correct_account_hint name db given start day f a d =
    let account = name_word name a in
    shows_on db (codes "hint: the account has another first day or form, or is carried otherwise\n"
    ++ codes "hint: for another form, or if a total is reported or a year is open, "
    ++ codes "enrol a new account by another name\n"
    ++ codes "hint: else, to correct its first day or carried, ftd correct-account --db ")
    verb.CorrectAccount 32 (codes "START\n") [] (codes "START" ∷ []) (start ∷ []) _ f
    (record { plain = refl; opens = λ rest. refl }) refl refl refl name account
    (correct_account_asks db name start day false f account (value_spells day_of start day d))

-- how an account begins, as it was asked
correction_shown : (db name : List ℕ) (day : ℕ) (form : Form) (carried : Bool) → IsFile db
    → IsName name → IsDay day
    → ShowsWhole db
    (correction_text db name (record { start = day; carried = carried; form = form }))
    (under_next db (correction.Account name (record { start = day; carried = carried })))
correction_shown db name day form true f a d =
    let account = name_word name a in
    shows_of db (codes "hint: to correct it, ftd correct-account --db ") verb.CorrectAccount 32
    (codes "--carried\n") (codes "--carried" ∷ []) [] [] _ f
    (record { plain = refl; opens = λ rest. refl }) refl refl refl name (day_text day) account
    (day_word day)
    (correct_account_asks db name (day_text day) day true f account (day_spells day d))
correction_shown db name day form false f a d =
    let account = name_word name a in
    shows_of db (codes "hint: to correct it, ftd correct-account --db ") verb.CorrectAccount 10
    [] [] [] [] _ f
    (record { plain = refl; opens = λ rest. refl }) refl refl refl name (day_text day) account
    (day_word day)
    (correct_account_asks db name (day_text day) day false f account (day_spells day d))

pub enrolment_hint : (name db : List ℕ) (enrolment : Enrolment) → IsFile db → IsName name
    → IsDay enrolment.asked.start → is_form enrolment.asked.form enrolment.kept.form ≡ true
    → enrolment.is_unused ≡ true
    → ShowsWhole db (advice_text db name enrolment)
    (under_next db (correction.Account name (beginning_of enrolment.asked)))
unfolding advice_text
enrolment_hint name db enrolment f a d same unused =
    rw (same, unused)
    (correction_shown db name enrolment.asked.start enrolment.asked.form enrolment.asked.carried f a
    d)

-- a holiday that is new
pub new_day_hint : (db : List ℕ) (day : ℕ) → IsFile db → IsDay day
    → ShowsWhole db (new_text db (Some day)) (of_desk db (request.Enter (entry.Holiday day)))
new_day_hint db day f d =
    shows_on db (codes "hint: one more holiday is ftd add-holiday --db ") verb.AddHoliday 10 [] []
    [] [] _ f (record { plain = refl; opens = λ rest. refl }) refl refl refl (day_text day)
    (day_word day) (add_holiday_asks db (day_text day) day f (day_spells day d))

-- one that was given: the text shows the day before the command as well
given_before : (day : ℕ) (words : List Text)
    → from_program (day_text day ∷ words) ≡ from_program words
given_before day words =
    rw (eq_not (digit (year_of day / 1000)) 102 (λ s. absurd (omega arith))) refl

pub left_out_hint : (db : List ℕ) (day : ℕ) → IsFile db → IsDay day
    → ShowsWhole db (left_out_text db (Some day))
    (under_next db (correction.Holiday day false))
left_out_hint db day f d =
    let word = day_word day in
    let last : List ℕ = concat (day_text day ∷ codes " no\n" ∷ []) in
    let tail : List ℕ = concat (file_text db ∷ codes " " ∷ day_text day ∷ codes " no\n" ∷ []) in
    let middle : List ℕ = codes "was given too\nhint: if it is no holiday, ftd change-holiday --db "
    ++ tail in
    shows db (left_out_text db (Some day)) verb.ChangeHoliday (day_text day ∷ codes "no" ∷ []) [] []
    [] _ f refl
    (ap from_program (next_word (day_text day) 32 middle word.shown refl)
    ∙ (given_before day (words_in middle)
    ∙ ap (λ ws. opening verb.ChangeHoliday ++ ws)
    (next_word (file_text db) 32 last (file_shown db f) refl
    ∙ ap (λ ws. file_text db ∷ ws)
    (next_word (day_text day) 32 (codes "no\n" ++ []) word.shown refl))))
    (rw (shown_plain (day_text day) word.shown) refl)
    (change_holiday_asks db (day_text day) day false f (day_spells day d))

-- one that is a holiday already, and may be taken back since
pub already_holiday_hint : (db : List ℕ) (day : ℕ) → IsFile db → IsDay day
    → ShowsWhole db (already_hint db (request.Enter (entry.Holiday day)))
    (under_next db (correction.Holiday day true))
already_holiday_hint db day f d =
    shows_on db (codes "hint: if the day was taken back, ftd change-holiday --db ")
    verb.ChangeHoliday 32 (codes "yes\n") (codes "yes" ∷ []) [] [] _ f
    (record { plain = refl; opens = λ rest. refl }) refl refl refl (day_text day)
    (day_word day) (change_holiday_asks db (day_text day) day true f (day_spells day d))

-- ---- commands that are only named

pub form_named : (db : List ℕ) (asked : Request)
    → named_command (command_in (hint_text db asked refusal.WrongForm))
    ≡ option_map name.Verb (verb_meant asked)
unfolding hint_text hint_of said_text command_named
form_named db (request.Enter (entry.Account name account)) = refl
form_named db (request.Enter (entry.Calendar year days)) = refl
form_named db (request.Enter (entry.Holiday day)) = refl
form_named db (request.Enter (entry.Total account (Quarter quarter) cents)) = refl
form_named db (request.Enter (entry.Total account (Year year) cents)) = refl
form_named db (request.Enter (entry.Year account year)) = refl
form_named db (request.Post account number run) = refl
form_named db (request.Void account number) = refl
form_named db (request.Pay account number payment) = refl
form_named db (request.VoidPay account number) = refl
form_named db (request.Correct number (correction.Total account (Quarter quarter) cents)) = refl
form_named db (request.Correct number (correction.Total account (Year year) cents)) = refl
form_named db (request.Correct number (correction.Holiday day is_holiday)) = refl
form_named db (request.Correct number (correction.Account account beginning)) = refl
form_named db (request.Question asked) = refl

pub calendar_named : (db : List ℕ) (asked : Request)
    → named_command (command_in (hint_text db asked refusal.CalendarDiffers))
    ≡ Some (name.Verb verb.AddHoliday)
unfolding hint_text hint_of said_text command_named
calendar_named db asked = refl

pub no_holiday_named : (db : List ℕ) (asked : Request)
    → named_command (command_in (hint_text db asked refusal.NoHoliday))
    ≡ Some (name.Verb verb.AddHoliday)
unfolding hint_text hint_of said_text command_named
no_holiday_named db asked = refl
