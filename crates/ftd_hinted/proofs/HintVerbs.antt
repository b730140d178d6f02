-- What the words of each command ask that a hint shows, whatever texts spell its values: for each
-- verb what it asks by what its fields say, that it is a subcommand, and what its words ask.
use Rattle.std.proofs.Common.{◌≡◌, ℕ, Bool, true, false, List, [], ◌∷◌, Some, Ok}
use Rattle.std.proofs.Common.{cond, refl, ap, pos}
use Rattle.std.specs.Prelude.{codes}
use Rattle.clap.proofs.OnLiterals.{clap_on_literals}
use Rattle.clap.specs.Kinds.{or_else, value_kinds}
use Rattle.clap.specs.Values.{refused_kind}
use Rattle.clap.specs.Walk.{Text}
use Rattle.clap.specs.declared.builder.value_parser.ValueParser.TheVariants as parser
use Rattle.ftd_cli.specs.Asking.{ask_next}
use Rattle.ftd_cli.specs.Tasks.{command_named}
use Rattle.ftd_cli.specs.Words.{amount_of}
use Rattle.ftd_days.specs.Spelling.{day_of, spelled_quarter}
use Rattle.ftd_days.specs.declared.cents.Cents.{Cents}
use Rattle.ftd_rules.specs.declared.Form.{Form}
use Rattle.ftd_rules.specs.declared.Form.TheVariants.{F941, F943}
use Rattle.ftd_machine.specs.declared.entries.ReturnPeriod.TheVariants.{Quarter, Year}
use Rattle.ftd_machine.specs.declared.requests.Correction.TheVariants as correction
use Rattle.ftd_machine.specs.declared.requests.Entry.TheVariants as entry
use Rattle.ftd_machine.specs.declared.requests.Request.TheVariants as request
use Rattle.ftd_verbs.specs.Asked.{add_holiday, change_holiday, correct_account, correct_report}
use Rattle.ftd_verbs.specs.Asked.{correct_report_year, enrol, greatest_number, open_year, report}
use Rattle.ftd_verbs.specs.Asked.{report_year, void, void_pay}
use Rattle.ftd_verbs.specs.Fields.{Said}
use Rattle.ftd_verbs.specs.declared.field.Field.TheVariants as field
use Rattle.ftd_verbs.specs.declared.rows.Verb.TheVariants as verb
use Rattle.ftd_hinted.specs.Hinted.{Ask, IsFile, of_desk}
use Rattle.ftd_hinted.proofs.HintTasks.{IsCommand, command_on, verb_asks, verb_asks_next}
use Rattle.ftd_hinted.proofs.HintValues.{IsNumberWord, IsWord, Spells, is_taken}
use Rattle.ftd_replies.proofs.Walked.{Item, flag, items_fault, place}

-- an argument finds no fault in a text that it takes
pub no_fault : (text : Text) → is_taken text ≡ true
    → value_kinds false (parser.Signed (pos 0) (pos 4294967295)) text ≡ []
no_fault text e =
    ap (λ b. cond b [] (refused_kind (parser.Signed (pos 0) (pos 4294967295)) ∷ [])) e

-- ---- `open-year`

open_year_said : (said : Said) (account : Text) (year : ℕ)
    → said.text field.Account ≡ Some account → said.whole field.Year ≡ Some year
    → open_year said ≡ Ok (request.Enter (entry.Year account year))
unfolding open_year
open_year_said said account year a b = rw (a, b) refl

open_year_command : IsCommand verb.OpenYear
unfolding clap_on_literals command_named
open_year_command = record {
  known = refl;
  found = refl;
  same = refl;
  quiet = λ rest e. ap (λ k. or_else k []) e;
}

pub open_year_asks : (db account year_text : Text) (year : ℕ) → IsFile db → IsWord account
    → IsNumberWord year_text year
    → Ask (command_on verb.OpenYear db (place account ∷ place year_text ∷ []))
    (of_desk db (request.Enter (entry.Year account year)))
unfolding clap_on_literals items_fault
open_year_asks db account year_text year f a y = λ today.
    verb_asks today db verb.OpenYear (place account ∷ place year_text ∷ [])
    (request.Enter (entry.Year account year)) open_year_command
    (rw (f, a.value, y.word_is.value) refl)
    (ap (λ k. or_else (or_else k []) []) (no_fault year_text y.taken)) refl
    (record {
      request = open_year_said _ account year refl y.spells;
      fixed = refl;
      file = refl;
      wait = refl;
    })

-- ---- `void`

void_said : (said : Said) (account : Text) (number : ℕ)
    → said.text field.Account ≡ Some account → said.whole field.RunToVoid ≡ Some number
    → void said ≡ Ok (request.Void account number)
unfolding void
void_said said account number a b = rw (a, b) refl

void_command : IsCommand verb.Void
unfolding clap_on_literals command_named
void_command = record {
  known = refl;
  found = refl;
  same = refl;
  quiet = λ rest e. ap (λ k. or_else k []) e;
}

pub void_asks : (db account number_text : Text) (number : ℕ) → IsFile db → IsWord account
    → IsNumberWord number_text number
    → Ask (command_on verb.Void db (place account ∷ place number_text ∷ []))
    (of_desk db (request.Void account number))
unfolding clap_on_literals items_fault
void_asks db account number_text number f a n = λ today.
    verb_asks today db verb.Void (place account ∷ place number_text ∷ [])
    (request.Void account number) void_command
    (rw (f, a.value, n.word_is.value) refl)
    (ap (λ k. or_else (or_else k []) []) (no_fault number_text n.taken)) refl
    (record {
      request = void_said _ account number refl n.spells;
      fixed = refl;
      file = refl;
      wait = refl;
    })

-- ---- `void-pay`

void_pay_said : (said : Said) (account : Text) (number : ℕ)
    → said.text field.Account ≡ Some account → said.whole field.PaymentToVoid ≡ Some number
    → void_pay said ≡ Ok (request.VoidPay account number)
unfolding void_pay
void_pay_said said account number a b = rw (a, b) refl

void_pay_command : IsCommand verb.VoidPay
unfolding clap_on_literals command_named
void_pay_command = record {
  known = refl;
  found = refl;
  same = refl;
  quiet = λ rest e. ap (λ k. or_else k []) e;
}

pub void_pay_asks : (db account number_text : Text) (number : ℕ) → IsFile db → IsWord account
    → IsNumberWord number_text number
    → Ask (command_on verb.VoidPay db (place account ∷ place number_text ∷ []))
    (of_desk db (request.VoidPay account number))
unfolding clap_on_literals items_fault
void_pay_asks db account number_text number f a n = λ today.
    verb_asks today db verb.VoidPay (place account ∷ place number_text ∷ [])
    (request.VoidPay account number) void_pay_command
    (rw (f, a.value, n.word_is.value) refl)
    (ap (λ k. or_else (or_else k []) []) (no_fault number_text n.taken)) refl
    (record {
      request = void_pay_said _ account number refl n.spells;
      fixed = refl;
      file = refl;
      wait = refl;
    })

-- ---- `report`

report_said : (said : Said) (account : Text) (quarter : ℕ) (cents : Cents)
    → said.text field.Account ≡ Some account → said.quarter field.Quarter ≡ Some quarter
    → said.amount field.Amount ≡ Some cents
    → report said
    ≡ Ok (request.Enter (entry.Total account (Quarter quarter) cents))
unfolding report
report_said said account quarter cents a b c = rw (a, b, c) refl

report_command : IsCommand verb.Report
unfolding clap_on_literals command_named
report_command = record {
  known = refl;
  found = refl;
  same = refl;
  quiet = λ rest e. ap (λ k. or_else k []) e;
}

pub report_asks : (db account quarter_text : Text) (quarter : ℕ) (amount : Text) (cents : Cents)
    → IsFile db → IsWord account → IsWord quarter_text
    → spelled_quarter quarter_text ≡ Some quarter → Spells amount_of amount cents
    → Ask (command_on verb.Report db
    (place account ∷ place quarter_text ∷ place amount ∷ []))
    (of_desk db (request.Enter (entry.Total account (Quarter quarter) cents)))
unfolding clap_on_literals items_fault
report_asks db account quarter_text quarter amount cents f a w q c = λ today.
    verb_asks today db verb.Report (place account ∷ place quarter_text ∷ place amount ∷ [])
    (request.Enter (entry.Total account (Quarter quarter) cents)) report_command
    (rw (f, a.value, w.value, c.0) refl) refl refl
    (record {
      request = report_said _ account quarter cents refl q c.1;
      fixed = refl;
      file = refl;
      wait = refl;
    })

-- ---- `correct-report`, which takes the next number

correct_report_said : (said : Said) (account : Text) (quarter : ℕ) (cents : Cents)
    → said.text field.Account ≡ Some account → said.quarter field.Quarter ≡ Some quarter
    → said.amount field.Amount ≡ Some cents
    → said.is_left_out field.Number ≡ true
    → correct_report said
    ≡ Ok (request.Correct greatest_number (correction.Total account (Quarter quarter) cents))
unfolding correct_report
correct_report_said said account quarter cents a b c d = rw (a, b, c, d) refl

correct_report_command : IsCommand verb.CorrectReport
unfolding clap_on_literals command_named
correct_report_command = record {
  known = refl;
  found = refl;
  same = refl;
  quiet = λ rest e. ap (λ k. or_else k []) e;
}

pub correct_report_asks : (db account quarter_text : Text) (quarter : ℕ) (amount : Text)
    (cents : Cents)
    → IsFile db → IsWord account → IsWord quarter_text
    → spelled_quarter quarter_text ≡ Some quarter → Spells amount_of amount cents
    → Ask (command_on verb.CorrectReport db
    (place account ∷ place quarter_text ∷ place amount ∷ []))
    (ask_next db 0
    (request.Correct greatest_number (correction.Total account (Quarter quarter) cents)))
unfolding clap_on_literals items_fault
correct_report_asks db account quarter_text quarter amount cents f a w q c = λ today.
    verb_asks_next today db verb.CorrectReport
    (place account ∷ place quarter_text ∷ place amount ∷ [])
    (request.Correct greatest_number (correction.Total account (Quarter quarter) cents))
    correct_report_command
    (rw (f, a.value, w.value, c.0) refl) refl refl
    (record {
      request = correct_report_said _ account quarter cents refl q c.1 refl;
      fixed = refl;
      file = refl;
      wait = refl;
    })

-- ---- `report-year`

report_year_said : (said : Said) (account : Text) (year : ℕ) (cents : Cents)
    → said.text field.Account ≡ Some account → said.whole field.Year ≡ Some year
    → said.amount field.Amount ≡ Some cents
    → report_year said
    ≡ Ok (request.Enter (entry.Total account (Year year) cents))
unfolding report_year
report_year_said said account year cents a b c = rw (a, b, c) refl

report_year_command : IsCommand verb.ReportYear
unfolding clap_on_literals command_named
report_year_command = record {
  known = refl;
  found = refl;
  same = refl;
  quiet = λ rest e. ap (λ k. or_else k []) e;
}

pub report_year_asks : (db account year_text : Text) (year : ℕ) (amount : Text) (cents : Cents)
    → IsFile db → IsWord account → IsNumberWord year_text year → Spells amount_of amount cents
    → Ask (command_on verb.ReportYear db
    (place account ∷ place year_text ∷ place amount ∷ []))
    (of_desk db (request.Enter (entry.Total account (Year year) cents)))
unfolding clap_on_literals items_fault
report_year_asks db account year_text year amount cents f a y c = λ today.
    verb_asks today db verb.ReportYear (place account ∷ place year_text ∷ place amount ∷ [])
    (request.Enter (entry.Total account (Year year) cents)) report_year_command
    (rw (f, a.value, y.word_is.value, c.0) refl)
    (ap (λ k. or_else (or_else (or_else k []) []) []) (no_fault year_text y.taken)) refl
    (record {
      request = report_year_said _ account year cents refl y.spells c.1;
      fixed = refl;
      file = refl;
      wait = refl;
    })

-- ---- `correct-report-year`, which takes the next number

correct_report_year_said : (said : Said) (account : Text) (year : ℕ) (cents : Cents)
    → said.text field.Account ≡ Some account → said.whole field.Year ≡ Some year
    → said.amount field.Amount ≡ Some cents
    → said.is_left_out field.Number ≡ true
    → correct_report_year said
    ≡ Ok (request.Correct greatest_number (correction.Total account (Year year) cents))
unfolding correct_report_year
correct_report_year_said said account year cents a b c d = rw (a, b, c, d) refl

correct_report_year_command : IsCommand verb.CorrectReportYear
unfolding clap_on_literals command_named
correct_report_year_command = record {
  known = refl;
  found = refl;
  same = refl;
  quiet = λ rest e. ap (λ k. or_else k []) e;
}

pub correct_report_year_asks : (db account year_text : Text) (year : ℕ) (amount : Text)
    (cents : Cents)
    → IsFile db → IsWord account → IsNumberWord year_text year → Spells amount_of amount cents
    → Ask (command_on verb.CorrectReportYear db
    (place account ∷ place year_text ∷ place amount ∷ []))
    (ask_next db 0 (request.Correct greatest_number (correction.Total account (Year year) cents)))
unfolding clap_on_literals items_fault
correct_report_year_asks db account year_text year amount cents f a y c = λ today.
    verb_asks_next today db verb.CorrectReportYear
    (place account ∷ place year_text ∷ place amount ∷ [])
    (request.Correct greatest_number (correction.Total account (Year year) cents))
    correct_report_year_command
    (rw (f, a.value, y.word_is.value, c.0) refl)
    (ap (λ k. or_else (or_else (or_else k []) []) []) (no_fault year_text y.taken)) refl
    (record {
      request = correct_report_year_said _ account year cents refl y.spells c.1 refl;
      fixed = refl;
      file = refl;
      wait = refl;
    })

-- ---- `enrol`

enrol_said : (said : Said) (account : Text) (start : ℕ) (form : Form)
    → said.text field.Account ≡ Some account → said.day field.Start ≡ Some start
    → said.mark field.Carried ≡ Some false → said.form field.Form ≡ Some form
    → enrol said
    ≡ Ok (request.Enter (entry.Account account (record {
      start = start;
      carried = false;
      form = form;
    })))
unfolding enrol
enrol_said said account start form a b c d = rw (a, b, c, d) refl

enrol_command : IsCommand verb.Enrol
unfolding clap_on_literals command_named
enrol_command = record {
  known = refl;
  found = refl;
  same = refl;
  quiet = λ rest e. ap (λ k. or_else k []) e;
}

-- the words of a form, of which Form 941 is meant where none is named
abbrev pub form_items : Form → List Item
form_items F941 = []
form_items F943 = flag (codes "--form") ∷ place (codes "943") ∷ []

pub enrol_asks : (db account day : Text) (start : ℕ) (form : Form) → IsFile db → IsWord account
    → Spells day_of day start
    → Ask (command_on verb.Enrol db (place account ∷ place day ∷ form_items form))
    (of_desk db (request.Enter (entry.Account account (record {
      start = start;
      carried = false;
      form = form;
    }))))
unfolding clap_on_literals items_fault
enrol_asks db account day start F941 f a d = λ today.
    verb_asks today db verb.Enrol (place account ∷ place day ∷ form_items F941)
    (request.Enter (entry.Account account (record {
      start = start;
      carried = false;
      form = F941;
    }))) enrol_command
    (rw (f, a.value, d.0) refl) refl refl
    (record {
      request = enrol_said _ account start F941 refl d.1 refl refl;
      fixed = refl;
      file = refl;
      wait = refl;
    })
enrol_asks db account day start F943 f a d = λ today.
    verb_asks today db verb.Enrol (place account ∷ place day ∷ form_items F943)
    (request.Enter (entry.Account account (record {
      start = start;
      carried = false;
      form = F943;
    }))) enrol_command
    (rw (f, a.value, d.0) refl) refl refl
    (record {
      request = enrol_said _ account start F943 refl d.1 refl refl;
      fixed = refl;
      file = refl;
      wait = refl;
    })

-- ---- `correct-account`, which takes the next number

correct_account_said : (said : Said) (account : Text) (start : ℕ) (carried : Bool)
    → said.text field.Account ≡ Some account → said.day field.Start ≡ Some start
    → said.mark field.Carried ≡ Some carried → said.is_left_out field.Number ≡ true
    → correct_account said
    ≡ Ok (request.Correct greatest_number (correction.Account account (record {
      start = start;
      carried = carried;
    })))
unfolding correct_account
correct_account_said said account start carried a b c d = rw (a, b, c, d) refl

correct_account_command : IsCommand verb.CorrectAccount
unfolding clap_on_literals command_named
correct_account_command = record {
  known = refl;
  found = refl;
  same = refl;
  quiet = λ rest e. ap (λ k. or_else k []) e;
}

-- the mark of an account that is carried
abbrev pub carried_items : Bool → List Item
carried_items true = flag (codes "--carried") ∷ []
carried_items false = []

pub correct_account_asks : (db account day : Text) (start : ℕ) (carried : Bool) → IsFile db
    → IsWord account → Spells day_of day start
    → Ask (command_on verb.CorrectAccount db
    (place account ∷ place day ∷ carried_items carried))
    (ask_next db 0 (request.Correct greatest_number (correction.Account account (record {
      start = start;
      carried = carried;
    }))))
unfolding clap_on_literals items_fault
correct_account_asks db account day start true f a d = λ today.
    verb_asks_next today db verb.CorrectAccount
    (place account ∷ place day ∷ carried_items true)
    (request.Correct greatest_number (correction.Account account (record {
      start = start;
      carried = true;
    }))) correct_account_command
    (rw (f, a.value, d.0) refl) refl refl
    (record {
      request = correct_account_said _ account start true refl d.1 refl refl;
      fixed = refl;
      file = refl;
      wait = refl;
    })
correct_account_asks db account day start false f a d = λ today.
    verb_asks_next today db verb.CorrectAccount
    (place account ∷ place day ∷ carried_items false)
    (request.Correct greatest_number (correction.Account account (record {
      start = start;
      carried = false;
    }))) correct_account_command
    (rw (f, a.value, d.0) refl) refl refl
    (record {
      request = correct_account_said _ account start false refl d.1 refl refl;
      fixed = refl;
      file = refl;
      wait = refl;
    })

-- ---- `add-holiday`

add_holiday_said : (said : Said) (day : ℕ) → said.day field.Day ≡ Some day
    → add_holiday said ≡ Ok (request.Enter (entry.Holiday day))
unfolding add_holiday
add_holiday_said said day a = rw a refl

add_holiday_command : IsCommand verb.AddHoliday
unfolding clap_on_literals command_named
add_holiday_command = record {
  known = refl;
  found = refl;
  same = refl;
  quiet = λ rest e. ap (λ k. or_else k []) e;
}

pub add_holiday_asks : (db text : Text) (day : ℕ) → IsFile db → Spells day_of text day
    → Ask (command_on verb.AddHoliday db (place text ∷ []))
    (of_desk db (request.Enter (entry.Holiday day)))
unfolding clap_on_literals items_fault
add_holiday_asks db text day f d = λ today.
    verb_asks today db verb.AddHoliday (place text ∷ []) (request.Enter (entry.Holiday day))
    add_holiday_command (rw (f, d.0) refl) refl refl
    (record {
      request = add_holiday_said _ day d.1;
      fixed = refl;
      file = refl;
      wait = refl;
    })

-- ---- `change-holiday`, which takes the next number

change_holiday_said : (said : Said) (day : ℕ) (is_holiday : Bool)
    → said.day field.Day ≡ Some day → said.answer field.IsHoliday ≡ Some is_holiday
    → said.is_left_out field.Number ≡ true
    → change_holiday said
    ≡ Ok (request.Correct greatest_number (correction.Holiday day is_holiday))
unfolding change_holiday
change_holiday_said said day is_holiday a b c = rw (a, b, c) refl

change_holiday_command : IsCommand verb.ChangeHoliday
unfolding clap_on_literals command_named
change_holiday_command = record {
  known = refl;
  found = refl;
  same = refl;
  quiet = λ rest e. ap (λ k. or_else k []) e;
}

-- the word of an answer
abbrev pub answer_word : Bool → Text
answer_word true = codes "yes"
answer_word false = codes "no"

pub change_holiday_asks : (db text : Text) (day : ℕ) (is_holiday : Bool) → IsFile db
    → Spells day_of text day
    → Ask (command_on verb.ChangeHoliday db (place text ∷ place (answer_word is_holiday) ∷ []))
    (ask_next db 0 (request.Correct greatest_number (correction.Holiday day is_holiday)))
unfolding clap_on_literals items_fault
change_holiday_asks db text day true f d = λ today.
    verb_asks_next today db verb.ChangeHoliday (place text ∷ place (codes "yes") ∷ [])
    (request.Correct greatest_number (correction.Holiday day true)) change_holiday_command
    (rw (f, d.0) refl) refl refl
    (record {
      request = change_holiday_said _ day true d.1 refl refl;
      fixed = refl;
      file = refl;
      wait = refl;
    })
change_holiday_asks db text day false f d = λ today.
    verb_asks_next today db verb.ChangeHoliday (place text ∷ place (codes "no") ∷ [])
    (request.Correct greatest_number (correction.Holiday day false)) change_holiday_command
    (rw (f, d.0) refl) refl refl
    (record {
      request = change_holiday_said _ day false d.1 refl refl;
      fixed = refl;
      file = refl;
      wait = refl;
    })
