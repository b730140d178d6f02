-- What the words of each verb's line ask, whatever texts spell its values: for each verb what it
-- asks by what its fields say, that it is a subcommand, and what its words ask of the desk.
use Rattle.std.proofs.Common.{◌≡◌, ℕ, Bool, true, false, List, [], ◌∷◌, ◌++◌, Option, Some, Ok}
use Rattle.std.proofs.Common.{cond, refl, ap, ap₂, option_map, pos}
use Rattle.std.specs.Prelude.{◌||◌, codes}
use Rattle.clap.proofs.OnLiterals.{clap_on_literals}
use Rattle.clap.specs.Kinds.{or_else, value_kinds}
use Rattle.clap.specs.ValueTests.{accepts}
use Rattle.clap.specs.Values.{refused_kind}
use Rattle.clap.specs.Walk.{Text}
use Rattle.clap.specs.declared.builder.value_parser.ValueParser.TheVariants as parser
use Rattle.ftd_cli.specs.Table.{field_text}
use Rattle.ftd_cli.specs.Tasks.{command_named}
use Rattle.ftd_cli.specs.Words.{amount_of, answer_of, form_of, in_cents, is_next, number_said}
use Rattle.ftd_cli.specs.declared.table.Name.TheVariants as name
use Rattle.ftd_days.specs.Spelling.{cents_of, day_of, spelled_quarter, whole_number}
use Rattle.ftd_days.specs.declared.cents.Cents.{Cents}
use Rattle.ftd_rules.specs.declared.Form.{Form}
use Rattle.ftd_machine.specs.declared.entries.ReturnPeriod.TheVariants.{Quarter, Year}
use Rattle.ftd_machine.specs.declared.requests.Correction.TheVariants as correction
use Rattle.ftd_machine.specs.declared.requests.Entry.TheVariants as entry
use Rattle.ftd_machine.specs.declared.requests.Request.TheVariants as request
use Rattle.ftd_verbs.specs.Asked.{add_holiday, change_holiday, correct_account, correct_report}
use Rattle.ftd_verbs.specs.Asked.{correct_report_year, enrol, open_year, pay, post, report}
use Rattle.ftd_verbs.specs.Asked.{report_year, void, void_pay}
use Rattle.ftd_verbs.specs.Fields.{Said}
use Rattle.ftd_verbs.specs.declared.field.Field.{Field}
use Rattle.ftd_verbs.specs.declared.field.Field.TheVariants as field
use Rattle.ftd_verbs.specs.declared.field.Kind.TheVariants as kind
use Rattle.ftd_verbs.specs.declared.rows.Verb.TheVariants as verb
use Rattle.ftd_replies.proofs.LineTasks.{Asks, IsCommand, verb_asks}
use Rattle.ftd_replies.specs.LineRequests.{is_value}
use Rattle.ftd_replies.proofs.Walked.{Item, flag, items_fault, place}

-- ---- the words of values

-- the name of an option, and a mark, which is there or not
abbrev pub option_item : Field → Item
option_item at = flag (codes "--" ++ field_text at)

abbrev pub mark_items : Field → Bool → List Item
mark_items at true = option_item at ∷ []
mark_items at false = []

-- the text spells this, and is no flag
abbrev pub Spells : {X : Type 0} → (Text → Option X) → Text → X → Type 0
Spells reads text value = (is_value text ≡ true) × (reads text ≡ Some value)

-- an argument whose values are numbers takes the text
abbrev pub is_taken : Text → Bool
is_taken text = accepts false (parser.Signed (pos 0) (pos 4294967295)) text

-- the text spells the number; arguments take it, and it is not the word for the next number
pub record IsNumberText (text : Text) (number : ℕ) : Type 0 where
  pub value : is_value text ≡ true
  pub spells : whole_number text ≡ Some number
  pub taken : is_taken text ≡ true
  pub other : is_next text ≡ false

-- an argument finds no fault in a text that it takes
pub no_fault : (text : Text) → is_taken text ≡ true
    → value_kinds false (parser.Signed (pos 0) (pos 4294967295)) text ≡ []
no_fault text e =
    ap (λ b. cond b [] (refused_kind (parser.Signed (pos 0) (pos 4294967295)) ∷ [])) e

-- the number of a new pay run or payment
new_number : (text : Text) (number : ℕ) → IsNumberText text number
    → number_said kind.NewNumber text ≡ Some number
new_number text number n = rw (n.other, n.spells) refl

-- an amount
amount_read : (text : Text) (cents : Cents) → cents_of text ≡ Some cents.0
    → amount_of text ≡ Some cents
amount_read text cents e = ap (option_map in_cents) e

-- ---- `enrol`

-- what it asks by what its fields say
enrol_said : (said : Said) (account : Text) (start : ℕ) (carried : Bool) (form : Form)
    → said.text field.Account ≡ Some account → said.day field.Start ≡ Some start
    → said.mark field.Carried ≡ Some carried → said.form field.Form ≡ Some form
    → enrol said
    ≡ Ok (request.Enter (entry.Account account (record {
      start = start;
      carried = carried;
      form = form;
    })))
unfolding enrol
enrol_said said account start carried form a b c d = rw (a, b, c, d) refl

-- it is a subcommand
enrol_command : IsCommand (name.Verb verb.Enrol)
unfolding clap_on_literals command_named
enrol_command = record {
  known = refl;
  found = refl;
  same = refl;
  quiet = λ rest e. ap (λ k. or_else k []) e;
}

-- what its words ask
pub enrol_asks : (today : Option ℕ) (db : Text) (account start_text : Text) (start : ℕ)
    (carried : Bool) (form_text : Text) (form : Form)
    → is_value account ≡ true → Spells day_of start_text start → Spells form_of form_text form
    → Asks today db verb.Enrol (place account ∷ (place start_text
    ∷ (mark_items field.Carried carried ++ (option_item field.Form ∷ place form_text ∷ []))))
    (request.Enter (entry.Account account (record {
      start = start;
      carried = carried;
      form = form;
    })))
unfolding clap_on_literals items_fault
enrol_asks today db account start_text start true form_text form a b c =
    verb_asks today db verb.Enrol
    (place account ∷ (place start_text ∷ (mark_items field.Carried true
    ++ (option_item field.Form ∷ place form_text ∷ []))))
    (request.Enter (entry.Account account (record {
      start = start;
      carried = true;
      form = form;
    })))
    enrol_command (rw (a, b.0, c.0) refl)
    refl
    (record {
      request = enrol_said _ account start true form refl b.1 refl c.1;
      own_number = refl;
      fixed = refl;
      file = refl;
      wait = refl;
    })
enrol_asks today db account start_text start false form_text form a b c =
    verb_asks today db verb.Enrol
    (place account ∷ (place start_text ∷ (mark_items field.Carried false
    ++ (option_item field.Form ∷ place form_text ∷ []))))
    (request.Enter (entry.Account account (record {
      start = start;
      carried = false;
      form = form;
    })))
    enrol_command (rw (a, b.0, c.0) refl)
    refl
    (record {
      request = enrol_said _ account start false form refl b.1 refl c.1;
      own_number = refl;
      fixed = refl;
      file = refl;
      wait = refl;
    })

-- ---- `add-holiday`

-- what it asks by what its fields say
add_holiday_said : (said : Said) (day : ℕ)
    → said.day field.Day ≡ Some day
    → add_holiday said ≡ Ok (request.Enter (entry.Holiday day))
unfolding add_holiday
add_holiday_said said day a = rw a refl

-- it is a subcommand
add_holiday_command : IsCommand (name.Verb verb.AddHoliday)
unfolding clap_on_literals command_named
add_holiday_command = record {
  known = refl;
  found = refl;
  same = refl;
  quiet = λ rest e. ap (λ k. or_else k []) e;
}

-- what its words ask
pub add_holiday_asks : (today : Option ℕ) (db : Text) (day_text : Text) (day : ℕ)
    → Spells day_of day_text day
    → Asks today db verb.AddHoliday (place day_text ∷ [])
    (request.Enter (entry.Holiday day))
unfolding clap_on_literals items_fault
add_holiday_asks today db day_text day a =
    verb_asks today db verb.AddHoliday
    (place day_text ∷ [])
    (request.Enter (entry.Holiday day))
    add_holiday_command (rw a.0 refl)
    refl
    (record {
      request = add_holiday_said _ day a.1;
      own_number = refl;
      fixed = refl;
      file = refl;
      wait = refl;
    })

-- ---- `report`

-- what it asks by what its fields say
report_said : (said : Said) (account : Text) (quarter : ℕ) (cents : Cents)
    → said.text field.Account ≡ Some account → said.quarter field.Quarter ≡ Some quarter
    → said.amount field.Amount ≡ Some cents
    → report said ≡ Ok (request.Enter (entry.Total account (Quarter quarter) cents))
unfolding report
report_said said account quarter cents a b c = rw (a, b, c) refl

-- it is a subcommand
report_command : IsCommand (name.Verb verb.Report)
unfolding clap_on_literals command_named
report_command = record {
  known = refl;
  found = refl;
  same = refl;
  quiet = λ rest e. ap (λ k. or_else k []) e;
}

-- what its words ask
pub report_asks : (today : Option ℕ) (db : Text) (account quarter_text : Text) (quarter : ℕ)
    (cents_text : Text) (cents : Cents)
    → is_value account ≡ true → Spells spelled_quarter quarter_text quarter
    → Spells cents_of cents_text cents.0
    → Asks today db verb.Report (place account ∷ place quarter_text ∷ place cents_text ∷ [])
    (request.Enter (entry.Total account (Quarter quarter) cents))
unfolding clap_on_literals items_fault
report_asks today db account quarter_text quarter cents_text cents a b c =
    verb_asks today db verb.Report
    (place account ∷ place quarter_text ∷ place cents_text ∷ [])
    (request.Enter (entry.Total account (Quarter quarter) cents))
    report_command (rw (a, b.0, c.0) refl)
    refl
    (record {
      request = report_said _ account quarter cents refl b.1 (amount_read cents_text cents c.1);
      own_number = refl;
      fixed = refl;
      file = refl;
      wait = refl;
    })

-- ---- `report-year`

-- what it asks by what its fields say
report_year_said : (said : Said) (account : Text) (year : ℕ) (cents : Cents)
    → said.text field.Account ≡ Some account → said.whole field.Year ≡ Some year
    → said.amount field.Amount ≡ Some cents
    → report_year said ≡ Ok (request.Enter (entry.Total account (Year year) cents))
unfolding report_year
report_year_said said account year cents a b c = rw (a, b, c) refl

-- it is a subcommand
report_year_command : IsCommand (name.Verb verb.ReportYear)
unfolding clap_on_literals command_named
report_year_command = record {
  known = refl;
  found = refl;
  same = refl;
  quiet = λ rest e. ap (λ k. or_else k []) e;
}

-- what its words ask
pub report_year_asks : (today : Option ℕ) (db : Text) (account year_text : Text) (year : ℕ)
    (cents_text : Text) (cents : Cents)
    → is_value account ≡ true → IsNumberText year_text year → Spells cents_of cents_text cents.0
    → Asks today db verb.ReportYear (place account ∷ place year_text ∷ place cents_text ∷ [])
    (request.Enter (entry.Total account (Year year) cents))
unfolding clap_on_literals items_fault
report_year_asks today db account year_text year cents_text cents a b c =
    verb_asks today db verb.ReportYear
    (place account ∷ place year_text ∷ place cents_text ∷ [])
    (request.Enter (entry.Total account (Year year) cents))
    report_year_command (rw (a, b.value, c.0) refl)
    (ap (λ k. or_else (or_else (or_else k []) []) []) (no_fault year_text b.taken))
    (record {
      request = report_year_said _ account year cents refl b.spells (amount_read cents_text cents
          c.1);
      own_number = refl;
      fixed = refl;
      file = refl;
      wait = refl;
    })

-- ---- `open-year`

-- what it asks by what its fields say
open_year_said : (said : Said) (account : Text) (year : ℕ)
    → said.text field.Account ≡ Some account → said.whole field.Year ≡ Some year
    → open_year said ≡ Ok (request.Enter (entry.Year account year))
unfolding open_year
open_year_said said account year a b = rw (a, b) refl

-- it is a subcommand
open_year_command : IsCommand (name.Verb verb.OpenYear)
unfolding clap_on_literals command_named
open_year_command = record {
  known = refl;
  found = refl;
  same = refl;
  quiet = λ rest e. ap (λ k. or_else k []) e;
}

-- what its words ask
pub open_year_asks : (today : Option ℕ) (db : Text) (account year_text : Text) (year : ℕ)
    → is_value account ≡ true → IsNumberText year_text year
    → Asks today db verb.OpenYear (place account ∷ place year_text ∷ [])
    (request.Enter (entry.Year account year))
unfolding clap_on_literals items_fault
open_year_asks today db account year_text year a b =
    verb_asks today db verb.OpenYear
    (place account ∷ place year_text ∷ [])
    (request.Enter (entry.Year account year))
    open_year_command (rw (a, b.value) refl)
    (ap (λ k. or_else (or_else k []) []) (no_fault year_text b.taken))
    (record {
      request = open_year_said _ account year refl b.spells;
      own_number = refl;
      fixed = refl;
      file = refl;
      wait = refl;
    })

-- ---- `post`

-- what it asks by what its fields say
post_said : (said : Said) (account : Text) (number : ℕ) (payday : ℕ) (fit : Cents) (ss : Cents)
    (medicare : Cents)
    → said.text field.Account ≡ Some account → said.whole field.Run ≡ Some number
    → said.day field.Payday ≡ Some payday → said.amount field.Fit ≡ Some fit
    → said.amount field.Ss ≡ Some ss → said.amount field.Medicare ≡ Some medicare
    → post said
    ≡ Ok (request.Post account number (record {
      payday = payday;
      fit = fit;
      ss = ss;
      medicare = medicare;
    }))
unfolding post
post_said said account number payday fit ss medicare a b c d e f = rw (a, b, c, d, e, f) refl

-- it is a subcommand
post_command : IsCommand (name.Verb verb.Post)
unfolding clap_on_literals command_named
post_command = record {
  known = refl;
  found = refl;
  same = refl;
  quiet = λ rest e. ap (λ k. or_else k []) e;
}

-- what its words ask
pub post_asks : (today : Option ℕ) (db : Text) (account number_text : Text) (number : ℕ)
    (payday_text : Text) (payday : ℕ) (fit_text : Text) (fit : Cents) (ss_text : Text)
    (ss : Cents) (medicare_text : Text) (medicare : Cents)
    → is_value account ≡ true → IsNumberText number_text number
    → Spells day_of payday_text payday → Spells cents_of fit_text fit.0
    → Spells cents_of ss_text ss.0 → Spells cents_of medicare_text medicare.0
    → Asks today db verb.Post (place account ∷ place number_text ∷ place payday_text
    ∷ place fit_text ∷ place ss_text ∷ place medicare_text ∷ [])
    (request.Post account number (record {
      payday = payday;
      fit = fit;
      ss = ss;
      medicare =
          medicare;
    }))
unfolding clap_on_literals items_fault
post_asks today db account number_text number payday_text payday fit_text fit ss_text ss
    medicare_text medicare a b c d e f =
    verb_asks today db verb.Post
    (place account ∷ place number_text ∷ place payday_text ∷ place fit_text ∷ place ss_text
    ∷ place medicare_text ∷ [])
    (request.Post account number (record {
      payday = payday;
      fit = fit;
      ss = ss;
      medicare =
          medicare;
    }))
    post_command (rw (a, b.value, c.0, d.0, e.0, f.0) refl)
    refl
    (record {
      request = post_said _ account number payday fit ss medicare refl (new_number number_text
          number b) c.1 (amount_read fit_text fit d.1) (amount_read ss_text ss e.1) (amount_read
          medicare_text medicare f.1);
      own_number = ap (λ b. b || false) b.other;
      fixed = refl;
      file = refl;
      wait = refl;
    })

-- ---- `void`

-- what it asks by what its fields say
void_said : (said : Said) (account : Text) (number : ℕ)
    → said.text field.Account ≡ Some account → said.whole field.RunToVoid ≡ Some number
    → void said ≡ Ok (request.Void account number)
unfolding void
void_said said account number a b = rw (a, b) refl

-- it is a subcommand
void_command : IsCommand (name.Verb verb.Void)
unfolding clap_on_literals command_named
void_command = record {
  known = refl;
  found = refl;
  same = refl;
  quiet = λ rest e. ap (λ k. or_else k []) e;
}

-- what its words ask
pub void_asks : (today : Option ℕ) (db : Text) (account number_text : Text) (number : ℕ)
    → is_value account ≡ true → IsNumberText number_text number
    → Asks today db verb.Void (place account ∷ place number_text ∷ [])
    (request.Void account number)
unfolding clap_on_literals items_fault
void_asks today db account number_text number a b =
    verb_asks today db verb.Void
    (place account ∷ place number_text ∷ [])
    (request.Void account number)
    void_command (rw (a, b.value) refl)
    (ap (λ k. or_else (or_else k []) []) (no_fault number_text b.taken))
    (record {
      request = void_said _ account number refl b.spells;
      own_number = refl;
      fixed = refl;
      file = refl;
      wait = refl;
    })

-- ---- `pay`

-- what it asks by what its fields say
pay_said : (said : Said) (account : Text) (number : ℕ) (paid : ℕ) (for_day : ℕ) (cents : Cents)
    → said.text field.Account ≡ Some account → said.whole field.Payment ≡ Some number
    → said.day field.Paid ≡ Some paid → said.day field.For ≡ Some for_day
    → said.amount field.Amount ≡ Some cents
    → pay said
    ≡ Ok (request.Pay account number (record {
      paid = paid;
      for_day = for_day;
      cents = cents;
    }))
unfolding pay
pay_said said account number paid for_day cents a b c d e = rw (a, b, c, d, e) refl

-- it is a subcommand
pay_command : IsCommand (name.Verb verb.Pay)
unfolding clap_on_literals command_named
pay_command = record {
  known = refl;
  found = refl;
  same = refl;
  quiet = λ rest e. ap (λ k. or_else k []) e;
}

-- what its words ask
pub pay_asks : (today : Option ℕ) (db : Text) (account number_text : Text) (number : ℕ)
    (paid_text : Text) (paid : ℕ) (for_text : Text) (for_day : ℕ) (cents_text : Text)
    (cents : Cents)
    → is_value account ≡ true → IsNumberText number_text number → Spells day_of paid_text paid
    → Spells day_of for_text for_day → Spells cents_of cents_text cents.0
    → Asks today db verb.Pay (place account ∷ place number_text ∷ place paid_text
    ∷ place for_text ∷ place cents_text ∷ [])
    (request.Pay account number (record { paid = paid; for_day = for_day; cents = cents }))
unfolding clap_on_literals items_fault
pay_asks today db account number_text number paid_text paid for_text for_day cents_text cents a b
    c d e =
    verb_asks today db verb.Pay
    (place account ∷ place number_text ∷ place paid_text ∷ place for_text ∷ place cents_text
    ∷ [])
    (request.Pay account number (record { paid = paid; for_day = for_day; cents = cents }))
    pay_command (rw (a, b.value, c.0, d.0, e.0) refl)
    refl
    (record {
      request = pay_said _ account number paid for_day cents refl (new_number number_text number
          b) c.1 d.1 (amount_read cents_text cents e.1);
      own_number = ap (λ b. b || false) b.other;
      fixed = refl;
      file = refl;
      wait = refl;
    })

-- ---- `void-pay`

-- what it asks by what its fields say
void_pay_said : (said : Said) (account : Text) (number : ℕ)
    → said.text field.Account ≡ Some account → said.whole field.PaymentToVoid ≡ Some number
    → void_pay said ≡ Ok (request.VoidPay account number)
unfolding void_pay
void_pay_said said account number a b = rw (a, b) refl

-- it is a subcommand
void_pay_command : IsCommand (name.Verb verb.VoidPay)
unfolding clap_on_literals command_named
void_pay_command = record {
  known = refl;
  found = refl;
  same = refl;
  quiet = λ rest e. ap (λ k. or_else k []) e;
}

-- what its words ask
pub void_pay_asks : (today : Option ℕ) (db : Text) (account number_text : Text) (number : ℕ)
    → is_value account ≡ true → IsNumberText number_text number
    → Asks today db verb.VoidPay (place account ∷ place number_text ∷ [])
    (request.VoidPay account number)
unfolding clap_on_literals items_fault
void_pay_asks today db account number_text number a b =
    verb_asks today db verb.VoidPay
    (place account ∷ place number_text ∷ [])
    (request.VoidPay account number)
    void_pay_command (rw (a, b.value) refl)
    (ap (λ k. or_else (or_else k []) []) (no_fault number_text b.taken))
    (record {
      request = void_pay_said _ account number refl b.spells;
      own_number = refl;
      fixed = refl;
      file = refl;
      wait = refl;
    })

-- ---- `correct-report`

-- what it asks by what its fields say
correct_report_said : (said : Said) (account : Text) (quarter : ℕ) (number : ℕ) (cents : Cents)
    → said.text field.Account ≡ Some account → said.quarter field.Quarter ≡ Some quarter
    → said.is_left_out field.Number ≡ false → said.whole field.Number ≡ Some number
    → said.amount field.Amount ≡ Some cents
    → correct_report said
    ≡ Ok (request.Correct number (correction.Total account (Quarter quarter) cents))
unfolding correct_report
correct_report_said said account quarter number cents a b c d e = rw (a, b, c, d, e) refl

-- it is a subcommand
correct_report_command : IsCommand (name.Verb verb.CorrectReport)
unfolding clap_on_literals command_named
correct_report_command = record {
  known = refl;
  found = refl;
  same = refl;
  quiet = λ rest e. ap (λ k. or_else k []) e;
}

-- what its words ask
pub correct_report_asks : (today : Option ℕ) (db : Text) (account quarter_text : Text)
    (quarter : ℕ) (number_text : Text) (number : ℕ) (cents_text : Text) (cents : Cents)
    → is_value account ≡ true → Spells spelled_quarter quarter_text quarter
    → IsNumberText number_text number → Spells cents_of cents_text cents.0
    → Asks today db verb.CorrectReport (place account ∷ place quarter_text
    ∷ option_item field.Number ∷ place number_text ∷ place cents_text ∷ [])
    (request.Correct number (correction.Total account (Quarter quarter) cents))
unfolding clap_on_literals items_fault
correct_report_asks today db account quarter_text quarter number_text number cents_text cents a b
    c d =
    verb_asks today db verb.CorrectReport
    (place account ∷ place quarter_text ∷ option_item field.Number ∷ place number_text
    ∷ place cents_text ∷ [])
    (request.Correct number (correction.Total account (Quarter quarter) cents))
    correct_report_command (rw (a, b.0, c.value, d.0) refl)
    (ap (λ k. or_else (or_else (or_else k []) []) []) (no_fault number_text c.taken))
    (record {
      request = correct_report_said _ account quarter number cents refl b.1 refl c.spells
          (amount_read cents_text cents d.1);
      own_number = refl;
      fixed = refl;
      file = refl;
      wait = refl;
    })

-- ---- `correct-report-year`

-- what it asks by what its fields say
correct_report_year_said : (said : Said) (account : Text) (year : ℕ) (number : ℕ) (cents : Cents)
    → said.text field.Account ≡ Some account → said.whole field.Year ≡ Some year
    → said.is_left_out field.Number ≡ false → said.whole field.Number ≡ Some number
    → said.amount field.Amount ≡ Some cents
    → correct_report_year said
    ≡ Ok (request.Correct number (correction.Total account (Year year) cents))
unfolding correct_report_year
correct_report_year_said said account year number cents a b c d e = rw (a, b, c, d, e) refl

-- it is a subcommand
correct_report_year_command : IsCommand (name.Verb verb.CorrectReportYear)
unfolding clap_on_literals command_named
correct_report_year_command = record {
  known = refl;
  found = refl;
  same = refl;
  quiet = λ rest e. ap (λ k. or_else k []) e;
}

-- what its words ask
pub correct_report_year_asks : (today : Option ℕ) (db : Text) (account year_text : Text)
    (year : ℕ) (number_text : Text) (number : ℕ) (cents_text : Text) (cents : Cents)
    → is_value account ≡ true → IsNumberText year_text year → IsNumberText number_text number
    → Spells cents_of cents_text cents.0
    → Asks today db verb.CorrectReportYear (place account ∷ place year_text
    ∷ option_item field.Number ∷ place number_text ∷ place cents_text ∷ [])
    (request.Correct number (correction.Total account (Year year) cents))
unfolding clap_on_literals items_fault
correct_report_year_asks today db account year_text year number_text number cents_text cents a b
    c d =
    verb_asks today db verb.CorrectReportYear
    (place account ∷ place year_text ∷ option_item field.Number ∷ place number_text
    ∷ place cents_text ∷ [])
    (request.Correct number (correction.Total account (Year year) cents))
    correct_report_year_command (rw (a, b.value, c.value, d.0) refl)
    (ap₂ (λ k l. or_else (or_else (or_else (or_else k []) []) (or_else (or_else l []) [])) [])
    (no_fault year_text b.taken) (no_fault number_text c.taken))
    (record {
      request = correct_report_year_said _ account year number cents refl b.spells refl c.spells
          (amount_read cents_text cents d.1);
      own_number = refl;
      fixed = refl;
      file = refl;
      wait = refl;
    })

-- ---- `change-holiday`

-- what it asks by what its fields say
change_holiday_said : (said : Said) (day : ℕ) (number : ℕ) (is_holiday : Bool)
    → said.day field.Day ≡ Some day → said.is_left_out field.Number ≡ false
    → said.whole field.Number ≡ Some number → said.answer field.IsHoliday ≡ Some is_holiday
    → change_holiday said ≡ Ok (request.Correct number (correction.Holiday day is_holiday))
unfolding change_holiday
change_holiday_said said day number is_holiday a b c d = rw (a, b, c, d) refl

-- it is a subcommand
change_holiday_command : IsCommand (name.Verb verb.ChangeHoliday)
unfolding clap_on_literals command_named
change_holiday_command = record {
  known = refl;
  found = refl;
  same = refl;
  quiet = λ rest e. ap (λ k. or_else k []) e;
}

-- what its words ask
pub change_holiday_asks : (today : Option ℕ) (db : Text) (day_text : Text) (day : ℕ)
    (number_text : Text) (number : ℕ) (answer_text : Text) (is_holiday : Bool)
    → Spells day_of day_text day → IsNumberText number_text number
    → Spells answer_of answer_text is_holiday
    → Asks today db verb.ChangeHoliday (place day_text ∷ option_item field.Number
    ∷ place number_text ∷ place answer_text ∷ [])
    (request.Correct number (correction.Holiday day is_holiday))
unfolding clap_on_literals items_fault
change_holiday_asks today db day_text day number_text number answer_text is_holiday a b c =
    verb_asks today db verb.ChangeHoliday
    (place day_text ∷ option_item field.Number ∷ place number_text ∷ place answer_text ∷ [])
    (request.Correct number (correction.Holiday day is_holiday))
    change_holiday_command (rw (a.0, b.value, c.0) refl)
    (ap (λ k. or_else (or_else (or_else k []) []) []) (no_fault number_text b.taken))
    (record {
      request = change_holiday_said _ day number is_holiday a.1 refl b.spells c.1;
      own_number = refl;
      fixed = refl;
      file = refl;
      wait = refl;
    })

-- ---- `correct-account`

-- what it asks by what its fields say
correct_account_said : (said : Said) (account : Text) (number : ℕ) (start : ℕ) (carried : Bool)
    → said.text field.Account ≡ Some account → said.is_left_out field.Number ≡ false
    → said.whole field.Number ≡ Some number → said.day field.Start ≡ Some start
    → said.mark field.Carried ≡ Some carried
    → correct_account said
    ≡ Ok (request.Correct number (correction.Account account (record {
      start = start;
      carried = carried;
    })))
unfolding correct_account
correct_account_said said account number start carried a b c d e = rw (a, b, c, d, e) refl

-- it is a subcommand
correct_account_command : IsCommand (name.Verb verb.CorrectAccount)
unfolding clap_on_literals command_named
correct_account_command = record {
  known = refl;
  found = refl;
  same = refl;
  quiet = λ rest e. ap (λ k. or_else k []) e;
}

-- what its words ask
pub correct_account_asks : (today : Option ℕ) (db : Text) (account number_text : Text)
    (number : ℕ) (start_text : Text) (start : ℕ) (carried : Bool)
    → is_value account ≡ true → IsNumberText number_text number → Spells day_of start_text start
    → Asks today db verb.CorrectAccount (place account ∷ option_item field.Number
    ∷ place number_text ∷ place start_text ∷ mark_items field.Carried carried)
    (request.Correct number (correction.Account account (record {
      start = start;
      carried =
          carried;
    })))
unfolding clap_on_literals items_fault
correct_account_asks today db account number_text number start_text start true a b c =
    verb_asks today db verb.CorrectAccount
    (place account ∷ option_item field.Number ∷ place number_text ∷ place start_text
    ∷ mark_items field.Carried true)
    (request.Correct number (correction.Account account (record {
      start = start;
      carried = true;
    })))
    correct_account_command (rw (a, b.value, c.0) refl)
    (ap (λ k. or_else (or_else (or_else k []) []) []) (no_fault number_text b.taken))
    (record {
      request = correct_account_said _ account number start true refl refl b.spells c.1 refl;
      own_number = refl;
      fixed = refl;
      file = refl;
      wait = refl;
    })
correct_account_asks today db account number_text number start_text start false a b c =
    verb_asks today db verb.CorrectAccount
    (place account ∷ option_item field.Number ∷ place number_text ∷ place start_text
    ∷ mark_items field.Carried false)
    (request.Correct number (correction.Account account (record {
      start = start;
      carried = false;
    })))
    correct_account_command (rw (a, b.value, c.0) refl)
    (ap (λ k. or_else (or_else (or_else k []) []) []) (no_fault number_text b.taken))
    (record {
      request = correct_account_said _ account number start false refl refl b.spells c.1 refl;
      own_number = refl;
      fixed = refl;
      file = refl;
      wait = refl;
    })
