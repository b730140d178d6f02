-- Each request whose values can be written has a line, which asks it.
use Rattle.std.proofs.Common.{inl, inr, ◌≡◌}
use Rattle.std.proofs.Common.{ℕ, ◌<◌, Bool, true, false, List, [], ◌∷◌, ◌++◌, map, Option, Some}
use Rattle.std.proofs.Common.{refl, sym, ap, ◌∙◌, arith, append_assoc}
use Rattle.std.proofs.lemmas.List.{length-map}
use Rattle.ftd_rules.specs.Lists.{Has}
use Rattle.ftd_replies.specs.LineLaws.{AsksInTurn, IsAmount}
use Rattle.ftd_replies.specs.LineLaws.{IsDay, IsName, IsNumber, IsShort, IsWritable}
use Rattle.ftd_replies.specs.LineLaws.{IsWritableCorrection, IsWritableEntry, IsWritablePayment}
use Rattle.ftd_replies.specs.LineLaws.{IsWritableRun}
use Rattle.ftd_replies.specs.RequestLines.{lines_of, account_correction_line, calendar_line}
use Rattle.ftd_replies.specs.RequestLines.{correction_line, day_correction_line, enrol_line}
use Rattle.ftd_replies.specs.RequestLines.{entry_line, pay_line, post_line, request_line}
use Rattle.ftd_replies.specs.RequestLines.{total_correction_line, total_line, word}
use Rattle.ftd_replies.proofs.LineFacts.{IsLineOf, then_asks}
use Rattle.std.specs.Prelude.{codes, flat_map}
use Rattle.std.specs.List.{All, list_all}
use Rattle.std.proofs.lemmas.List.Elements.{All-head, All-tail}
use Rattle.std.proofs.lemmas.List.Folds.{flat_map-map}
use Rattle.std.specs.Fmt.{decimal}
use Rattle.clap.specs.Walk.{Text}
use Rattle.ftd_answers.specs.Agendas.{form_number}
use Rattle.ftd_answers.specs.Fields.{yes_no}
use Rattle.ftd_cli.specs.Tasks.{command_named}
use Rattle.ftd_cli.specs.Words.{answer_of, form_of}
use Rattle.ftd_days.specs.Spelling.{cents_of, day_of, days_of, spelled_quarter}
use Rattle.ftd_days.specs.Text.{cents_text, day_text, quarter_text}
use Rattle.ftd_days.specs.declared.cents.Cents.{Cents}
use Rattle.ftd_rules.specs.declared.payment.Payment.{Payment}
use Rattle.ftd_rules.specs.declared.run.PayRun.{PayRun}
use Rattle.ftd_rules.specs.declared.Form.{Form}
use Rattle.ftd_rules.specs.declared.Form.TheVariants.{F941, F943}
use Rattle.ftd_days.specs.declared.limits.TheConstants.{QUARTERS}
use Rattle.ftd_machine.specs.declared.entries.ReturnPeriod.TheVariants.{Quarter, Year}
use Rattle.ftd_machine.specs.declared.requests.Correction.{Correction}
use Rattle.ftd_machine.specs.declared.requests.Correction.TheVariants as correction
use Rattle.ftd_machine.specs.declared.requests.Entry.{Entry}
use Rattle.ftd_machine.specs.declared.requests.Entry.TheVariants as entry
use Rattle.ftd_machine.specs.declared.requests.Request.{Request}
use Rattle.ftd_machine.specs.declared.requests.Request.TheVariants as request
use Rattle.ftd_verbs.specs.declared.field.Field.TheVariants as field
use Rattle.ftd_verbs.specs.declared.rows.Verb.TheVariants as verb
use Rattle.ftd_replies.proofs.CutLines.{are_words, is_word}
use Rattle.ftd_replies.proofs.CutLines.{spaced}
use Rattle.ftd_replies.proofs.LineValues.{cents_value, day_value, name_value, number_accepted}
use Rattle.ftd_replies.proofs.LineValues.{number_other, number_value, quarter_value, value_first}
use Rattle.ftd_replies.proofs.LineDays.{calendar_asks}
use Rattle.ftd_replies.proofs.LineVerbs.{IsNumberText, Spells, add_holiday_asks}
use Rattle.ftd_replies.proofs.LineVerbs.{change_holiday_asks, correct_account_asks}
use Rattle.ftd_replies.proofs.LineVerbs.{correct_report_asks, correct_report_year_asks, enrol_asks}
use Rattle.ftd_replies.proofs.LineVerbs.{mark_items, open_year_asks, option_item, pay_asks}
use Rattle.ftd_replies.proofs.LineVerbs.{post_asks, report_asks, report_year_asks, void_asks}
use Rattle.ftd_replies.proofs.LineVerbs.{void_pay_asks}
use Rattle.ftd_replies.proofs.ReadBack.{cents_back, day_back, number_back, quarter_back}
use Rattle.ftd_replies.specs.LineRequests.{is_value}
use Rattle.ftd_replies.proofs.Walked.{place, text_of}

-- ---- the texts of values

-- a day, an amount and a quarter are spelled by their texts
day_spells : (day : ℕ) → IsDay day → Spells day_of (day_text day) day
day_spells day h = ((day_value day).1, day_back day h)

cents_spells : (cents : Cents) → IsAmount cents → Spells cents_of (cents_text cents.0) cents.0
cents_spells cents h = ((cents_value cents.0 h).1, cents_back cents.0 h)

quarter_spells : (quarter : ℕ) → quarter < QUARTERS
    → Spells spelled_quarter (quarter_text quarter) quarter
quarter_spells quarter h = ((quarter_value quarter).1, quarter_back quarter h)

-- a form is spelled by its number
form_spells : (form : Form) → Spells form_of (form_number form) form
form_spells F941 = (refl, refl)
form_spells F943 = (refl, refl)

-- an answer is spelled by `yes` or `no`
answer_spells : (answer : Bool) → Spells answer_of (yes_no answer) answer
answer_spells true = (refl, refl)
answer_spells false = (refl, refl)

-- the texts of forms and of answers are words
form_word : (form : Form) → is_word (form_number form) ≡ true
form_word F941 = refl
form_word F943 = refl

answer_word : (answer : Bool) → is_word (yes_no answer) ≡ true
answer_word true = refl
answer_word false = refl

-- the text of a number is a word
number_word : (number : ℕ) → IsNumber number → is_word (decimal number) ≡ true
number_word number h = (number_value number (omega arith)).0

-- a number is spelled by its digits, which arguments take
pub number_text : (number : ℕ) → IsNumber number → IsNumberText (decimal number) number
number_text number h = record {
  value = (number_value number (omega arith)).1;
  spells = number_back number h;
  taken = number_accepted number h;
  other = number_other number h;
}

-- ---- what is entered

-- `enrol`, with its mark or without
enrol_line_is : (name : Text) (start : ℕ) (carried : Bool) (form : Form) → IsName name → IsDay start
    → IsLineOf (request.Enter (entry.Account name (record {
      start = start;
      carried = carried;
      form = form;
    })))
unfolding request_line entry_line enrol_line command_named
enrol_line_is name start true form a d = record {
  verb = verb.Enrol;
  items = place name ∷ place (day_text start) ∷ (mark_items field.Carried true
      ++ (option_item field.Form ∷ place (form_number form) ∷ []));
  line = refl;
  words = rw ((name_value name a).0, (day_value start).0, form_word form) refl;
  other = refl;
  no_comment = refl;
  file = refl;
  no_file = λ db. value_first db _ _ (name_value name a).1;
  few = λ h. omega arith;
  asks = λ today db. enrol_asks today db name (day_text start) start true (form_number form)
      form (name_value name a).1 (day_spells start d) (form_spells form);
}
enrol_line_is name start false form a d = record {
  verb = verb.Enrol;
  items = place name ∷ place (day_text start) ∷ (mark_items field.Carried false
      ++ (option_item field.Form ∷ place (form_number form) ∷ []));
  line = refl;
  words = rw ((name_value name a).0, (day_value start).0, form_word form) refl;
  other = refl;
  no_comment = refl;
  file = refl;
  no_file = λ db. value_first db _ _ (name_value name a).1;
  few = λ h. omega arith;
  asks = λ today db. enrol_asks today db name (day_text start) start false (form_number form)
      form (name_value name a).1 (day_spells start d) (form_spells form);
}

-- `add-holiday`
add_holiday_line : (day : ℕ) → IsDay day → IsLineOf (request.Enter (entry.Holiday day))
unfolding request_line entry_line command_named
add_holiday_line day d = record {
  verb = verb.AddHoliday;
  items = place (day_text day) ∷ [];
  line = refl;
  words = rw (day_value day).0 refl;
  other = refl;
  no_comment = refl;
  file = refl;
  no_file = λ db. refl;
  few = λ h. omega arith;
  asks = λ today db. add_holiday_asks today db (day_text day) day (day_spells day d);
}

-- `report`
report_line : (account : Text) (quarter : ℕ) (cents : Cents) → IsName account → quarter < QUARTERS
    → IsAmount cents → IsLineOf (request.Enter (entry.Total account (Quarter quarter) cents))
unfolding request_line entry_line total_line command_named
report_line account quarter cents a q c = record {
  verb = verb.Report;
  items = place account ∷ place (quarter_text quarter) ∷ place (cents_text cents.0) ∷ [];
  line = refl;
  words = rw ((name_value account a).0, (quarter_value quarter).0, (cents_value cents.0 c).0) refl;
  other = refl;
  no_comment = refl;
  file = refl;
  no_file = λ db. value_first db _ _ (name_value account a).1;
  few = λ h. omega arith;
  asks = λ today db. report_asks today db account (quarter_text quarter) quarter
      (cents_text cents.0) cents (name_value account a).1 (quarter_spells quarter q)
      (cents_spells cents c);
}

-- `report-year`
report_year_line : (account : Text) (year : ℕ) (cents : Cents) → IsName account → IsNumber year
    → IsAmount cents → IsLineOf (request.Enter (entry.Total account (Year year) cents))
unfolding request_line entry_line total_line command_named
report_year_line account year cents a y c = record {
  verb = verb.ReportYear;
  items = place account ∷ place (decimal year) ∷ place (cents_text cents.0) ∷ [];
  line = refl;
  words = rw ((name_value account a).0, number_word year y, (cents_value cents.0 c).0) refl;
  other = refl;
  no_comment = refl;
  file = refl;
  no_file = λ db. value_first db _ _ (name_value account a).1;
  few = λ h. omega arith;
  asks = λ today db. report_year_asks today db account (decimal year) year (cents_text cents.0)
      cents (name_value account a).1 (number_text year y) (cents_spells cents c);
}

-- `open-year`
open_year_line : (account : Text) (year : ℕ) → IsName account → IsNumber year
    → IsLineOf (request.Enter (entry.Year account year))
unfolding request_line entry_line command_named
open_year_line account year a y = record {
  verb = verb.OpenYear;
  items = place account ∷ place (decimal year) ∷ [];
  line = refl;
  words = rw ((name_value account a).0, number_word year y) refl;
  other = refl;
  no_comment = refl;
  file = refl;
  no_file = λ db. value_first db _ _ (name_value account a).1;
  few = λ h. omega arith;
  asks = λ today db. open_year_asks today db account (decimal year) year (name_value account a).1
      (number_text year y);
}

-- ---- a calendar

-- values are the texts that they are of
texts_back : (texts : List Text) → map text_of (map place texts) ≡ texts
texts_back [] = refl
texts_back (text ∷ texts) = ap (λ ts. text ∷ ts) (texts_back texts)

-- days are written by words, which are values
day_words : (days : List ℕ) → are_words (map day_text days) ≡ true
day_words [] = refl
day_words (day ∷ days) = rw (day_value day).0 (day_words days)

day_values : (days : List ℕ) → list_all is_value (map day_text days) ≡ true
day_values [] = refl
day_values (day ∷ days) = rw (day_value day).1 (day_values days)

-- each of them is read back
days_back : (days : List ℕ) → All IsDay days → days_of (map day_text days) ≡ Some days
days_back [] h = refl
days_back (day ∷ days) h =
    rw (day_back day (All-head IsDay day days h), days_back days (All-tail IsDay day days h)) refl

-- the words of the days stand as a calendar has them
spaced_days : (days : List ℕ)
    → flat_map (λ day. word (day_text day)) days
    ≡ spaced (map text_of (map place (map day_text days)))
spaced_days days =
    sym (flat_map-map (λ text. codes " " ++ text) day_text days)
    ∙ ap spaced (sym (texts_back (map day_text days)))

-- `calendar`
calendar_line_is : (year : ℕ) (days : List ℕ) → IsNumber year → All IsDay days
    → IsLineOf (request.Enter (entry.Calendar year days))
unfolding request_line entry_line calendar_line command_named
calendar_line_is year days y d = record {
  verb = verb.Calendar;
  items = place (decimal year) ∷ map place (map day_text days);
  line = ap (λ rest. codes "calendar" ++ (word (decimal year) ++ (rest ++ codes "\n")))
      (spaced_days days)
      ∙ ap (λ rest. codes "calendar" ++ rest)
      (sym (append_assoc (word (decimal year)) _ (codes "\n")));
  words = rw (number_word year y, texts_back (map day_text days)) (day_words days);
  other = refl;
  no_comment = refl;
  file = refl;
  no_file = λ db. value_first db _ _ (number_text year y).value;
  few = λ h. omega (arith, length-map (map day_text days) place, length-map days day_text);
  asks = λ today db. calendar_asks db (decimal year) today (map day_text days) year days
      (number_text year y) (day_values days) (days_back days d);
}

-- ---- pay runs and payments

-- `post`
post_line_is : (account : Text) (number : ℕ) (run : PayRun) → IsName account → IsNumber number
    → IsWritableRun run → IsLineOf (request.Post account number run)
unfolding request_line post_line command_named
post_line_is account number run a n r = record {
  verb = verb.Post;
  items = place account ∷ place (decimal number) ∷ place (day_text run.payday)
      ∷ place (cents_text run.fit.0) ∷ place (cents_text run.ss.0)
      ∷ place (cents_text run.medicare.0) ∷ [];
  line = refl;
  words = rw (
    (name_value account a).0,
    number_word number n,
    (day_value run.payday).0,
    (cents_value run.fit.0 r.1).0,
    (cents_value run.ss.0 r.2).0,
    (cents_value run.medicare.0 r.3).0,
  ) refl;
  other = refl;
  no_comment = refl;
  file = refl;
  no_file = λ db. value_first db _ _ (name_value account a).1;
  few = λ h. omega arith;
  asks = λ today db. post_asks today db account (decimal number) number
      (day_text run.payday) run.payday (cents_text run.fit.0) run.fit (cents_text run.ss.0) run.ss
      (cents_text run.medicare.0) run.medicare (name_value account a).1 (number_text number n)
      (day_spells run.payday r.0) (cents_spells run.fit r.1) (cents_spells run.ss r.2)
      (cents_spells run.medicare r.3);
}

-- `void`
void_line : (account : Text) (number : ℕ) → IsName account → IsNumber number
    → IsLineOf (request.Void account number)
unfolding request_line command_named
void_line account number a n = record {
  verb = verb.Void;
  items = place account ∷ place (decimal number) ∷ [];
  line = refl;
  words = rw ((name_value account a).0, number_word number n) refl;
  other = refl;
  no_comment = refl;
  file = refl;
  no_file = λ db. value_first db _ _ (name_value account a).1;
  few = λ h. omega arith;
  asks = λ today db. void_asks today db account (decimal number) number (name_value account a).1
      (number_text number n);
}

-- `pay`
pay_line_is : (account : Text) (number : ℕ) (payment : Payment) → IsName account
    → IsNumber number → IsWritablePayment payment → IsLineOf (request.Pay account number payment)
unfolding request_line pay_line command_named
pay_line_is account number payment a n p = record {
  verb = verb.Pay;
  items = place account ∷ place (decimal number) ∷ place (day_text payment.paid)
      ∷ place (day_text payment.for_day) ∷ place (cents_text payment.cents.0) ∷ [];
  line = refl;
  words = rw (
    (name_value account a).0,
    number_word number n,
    (day_value payment.paid).0,
    (day_value payment.for_day).0,
    (cents_value payment.cents.0 p.2).0,
  ) refl;
  other = refl;
  no_comment = refl;
  file = refl;
  no_file = λ db. value_first db _ _ (name_value account a).1;
  few = λ h. omega arith;
  asks = λ today db. pay_asks today db account (decimal number) number
      (day_text payment.paid) payment.paid (day_text payment.for_day) payment.for_day
      (cents_text payment.cents.0) payment.cents (name_value account a).1 (number_text number n)
      (day_spells payment.paid p.0) (day_spells payment.for_day p.1)
      (cents_spells payment.cents p.2);
}

-- `void-pay`
void_pay_line : (account : Text) (number : ℕ) → IsName account → IsNumber number
    → IsLineOf (request.VoidPay account number)
unfolding request_line command_named
void_pay_line account number a n = record {
  verb = verb.VoidPay;
  items = place account ∷ place (decimal number) ∷ [];
  line = refl;
  words = rw ((name_value account a).0, number_word number n) refl;
  other = refl;
  no_comment = refl;
  file = refl;
  no_file = λ db. value_first db _ _ (name_value account a).1;
  few = λ h. omega arith;
  asks = λ today db. void_pay_asks today db account (decimal number) number
      (name_value account a).1 (number_text number n);
}

-- ---- corrections

-- `correct-report`
correct_report_line : (number : ℕ) (account : Text) (quarter : ℕ) (cents : Cents)
    → IsNumber number → IsName account → quarter < QUARTERS → IsAmount cents
    → IsLineOf (request.Correct number (correction.Total account (Quarter quarter) cents))
unfolding request_line correction_line total_correction_line command_named
correct_report_line number account quarter cents n a q c = record {
  verb = verb.CorrectReport;
  items = place account ∷ place (quarter_text quarter) ∷ option_item field.Number
      ∷ place (decimal number) ∷ place (cents_text cents.0) ∷ [];
  line = refl;
  words = rw (
    (name_value account a).0,
    (quarter_value quarter).0,
    number_word number n,
    (cents_value cents.0 c).0,
  ) refl;
  other = refl;
  no_comment = refl;
  file = refl;
  no_file = λ db. value_first db _ _ (name_value account a).1;
  few = λ h. omega arith;
  asks = λ today db. correct_report_asks today db account (quarter_text quarter) quarter
      (decimal number) number (cents_text cents.0) cents (name_value account a).1
      (quarter_spells quarter q) (number_text number n) (cents_spells cents c);
}

-- `correct-report-year`
correct_report_year_line : (number : ℕ) (account : Text) (year : ℕ) (cents : Cents)
    → IsNumber number → IsName account → IsNumber year → IsAmount cents
    → IsLineOf (request.Correct number (correction.Total account (Year year) cents))
unfolding request_line correction_line total_correction_line command_named
correct_report_year_line number account year cents n a y c = record {
  verb = verb.CorrectReportYear;
  items = place account ∷ place (decimal year) ∷ option_item field.Number
      ∷ place (decimal number) ∷ place (cents_text cents.0) ∷ [];
  line = refl;
  words = rw (
    (name_value account a).0,
    number_word year y,
    number_word number n,
    (cents_value cents.0 c).0,
  ) refl;
  other = refl;
  no_comment = refl;
  file = refl;
  no_file = λ db. value_first db _ _ (name_value account a).1;
  few = λ h. omega arith;
  asks = λ today db. correct_report_year_asks today db account (decimal year) year
      (decimal number) number (cents_text cents.0) cents (name_value account a).1
      (number_text year y) (number_text number n) (cents_spells cents c);
}

-- `change-holiday`
change_holiday_line : (number day : ℕ) (is_holiday : Bool) → IsNumber number → IsDay day
    → IsLineOf (request.Correct number (correction.Holiday day is_holiday))
unfolding request_line correction_line day_correction_line command_named
change_holiday_line number day is_holiday n d = record {
  verb = verb.ChangeHoliday;
  items = place (day_text day) ∷ option_item field.Number ∷ place (decimal number)
      ∷ place (yes_no is_holiday) ∷ [];
  line = refl;
  words = rw ((day_value day).0, number_word number n, answer_word is_holiday) refl;
  other = refl;
  no_comment = refl;
  file = refl;
  no_file = λ db. value_first db _ _ (day_value day).1;
  few = λ h. omega arith;
  asks = λ today db. change_holiday_asks today db (day_text day) day (decimal number) number
      (yes_no is_holiday) is_holiday (day_spells day d) (number_text number n)
      (answer_spells is_holiday);
}

-- `correct-account`, with its mark or without
correct_account_line : (number : ℕ) (account : Text) (start : ℕ) (carried : Bool)
    → IsNumber number → IsName account → IsDay start
    → IsLineOf (request.Correct number (correction.Account account (record {
      start = start;
      carried = carried;
    })))
unfolding request_line correction_line account_correction_line command_named
correct_account_line number account start true n a d = record {
  verb = verb.CorrectAccount;
  items = place account ∷ option_item field.Number ∷ place (decimal number)
      ∷ place (day_text start) ∷ mark_items field.Carried true;
  line = refl;
  words = rw ((name_value account a).0, number_word number n, (day_value start).0) refl;
  other = refl;
  no_comment = refl;
  file = refl;
  no_file = λ db. value_first db _ _ (name_value account a).1;
  few = λ h. omega arith;
  asks = λ today db. correct_account_asks today db account (decimal number) number
      (day_text start) start true (name_value account a).1 (number_text number n)
      (day_spells start d);
}
correct_account_line number account start false n a d = record {
  verb = verb.CorrectAccount;
  items = place account ∷ option_item field.Number ∷ place (decimal number)
      ∷ place (day_text start) ∷ mark_items field.Carried false;
  line = refl;
  words = rw ((name_value account a).0, number_word number n, (day_value start).0) refl;
  other = refl;
  no_comment = refl;
  file = refl;
  no_file = λ db. value_first db _ _ (name_value account a).1;
  few = λ h. omega arith;
  asks = λ today db. correct_account_asks today db account (decimal number) number
      (day_text start) start false (name_value account a).1 (number_text number n)
      (day_spells start d);
}

-- ---- each request

-- each entry has a line
entry_line_is : (entered : Entry) → IsWritableEntry entered → IsLineOf (request.Enter entered)
entry_line_is (entry.Account name account) h =
    enrol_line_is name account.start account.carried account.form h.0 h.1
entry_line_is (entry.Calendar year days) h = calendar_line_is year days h.0 h.1
entry_line_is (entry.Holiday day) h = add_holiday_line day h
entry_line_is (entry.Total account (Quarter quarter) cents) h =
    report_line account quarter cents h.0 h.1 h.2
entry_line_is (entry.Total account (Year year) cents) h =
    report_year_line account year cents h.0 h.1 h.2
entry_line_is (entry.Year account year) h = open_year_line account year h.0 h.1

-- each correction has a line
correction_line_is : (number : ℕ) (corrected : Correction) → IsNumber number
    → IsWritableCorrection corrected → IsLineOf (request.Correct number corrected)
correction_line_is number (correction.Total account (Quarter quarter) cents) n h =
    correct_report_line number account quarter cents n h.0 h.1 h.2
correction_line_is number (correction.Total account (Year year) cents) n h =
    correct_report_year_line number account year cents n h.0 h.1 h.2
correction_line_is number (correction.Holiday day is_holiday) n h =
    change_holiday_line number day is_holiday n h
correction_line_is number (correction.Account account beginning) n h =
    correct_account_line number account beginning.start beginning.carried n h.0 h.1

-- each request whose values can be written has a line
pub line_is : (asked : Request) → IsWritable asked → IsLineOf asked
line_is (request.Enter entered) h = entry_line_is entered h
line_is (request.Post account number run) h = post_line_is account number run h.0 h.1 h.2
line_is (request.Void account number) h = void_line account number h.0 h.1
line_is (request.Pay account number payment) h = pay_line_is account number payment h.0 h.1 h.2
line_is (request.VoidPay account number) h = void_pay_line account number h.0 h.1
line_is (request.Correct number corrected) h = correction_line_is number corrected h.0 h.1
line_is (request.Question asked) h = absurd h

-- ---- lists of requests

-- the lines of requests that can be written ask them one after the other
pub lines_ask : (today : Option ℕ) (db : Text) (requests : List Request)
    → ((asked : Request) → Has requests asked → IsWritable asked × IsShort asked)
    → AsksInTurn today db (lines_of requests) requests
lines_ask today db [] each = refl
lines_ask today db (asked ∷ others) each =
    let own = each asked (inl refl) in
    then_asks asked (line_is asked own.0) today db (lines_of others) others own.1
    (lines_ask today db others (λ other has. each other (inr has)))
