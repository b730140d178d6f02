-- What the JSON of a day's deposit schedule says, and that of why an obligation is so; and what of
-- a desk they tell.
use Rattle.std.specs.Prelude.{ℕ, List, [], ◌∷◌, codes, map, Option, None, Some, option_and_then}
use Rattle.std.specs.Prelude.{option_map}
use Rattle.serde_json.specs.Data.{Data}
use Rattle.serde_json.specs.Find.{as_array, get}
use Rattle.serde_json.specs.Read as json
use Rattle.ftd_rules.specs.declared.Kind.{Kind}
use Rattle.ftd_rules.specs.declared.Obligation.{Obligation}
use Rattle.ftd_rules.specs.declared.Rule.{Rule}
use Rattle.ftd_machine.specs.declared.explained.CountedDay.{CountedDay}
use Rattle.ftd_machine.specs.declared.explained.DayKind.{DayKind}
use Rattle.ftd_machine.specs.declared.explained.DayKind.TheVariants as day_kind
use Rattle.ftd_machine.specs.declared.explained.Explanation.{Explanation}
use Rattle.ftd_machine.specs.declared.explained.RunningSum.{RunningSum}
use Rattle.ftd_machine.specs.declared.replies.Reason.{Reason}
use Rattle.ftd_machine.specs.declared.replies.Reason.TheVariants as reason
use Rattle.ftd_read_back.specs.Cells.{cents_read, kind_read, named_among, rule_read}
use Rattle.ftd_read_back.specs.Dates.{Date, date_of, day_read}
use Rattle.ftd_read_back.specs.Objects.{PaymentObject, elements, or_null, payment_object}
use Rattle.ftd_read_back.specs.Objects.{payment_object_read, text_in}

-- what is said of the object that a text is, if it is such a text
abbrev pub object_read : {A : Type 0} → (Data → A) → List ℕ → Option A
object_read read text = option_map read (json.read text)

-- what each object says of the array that an object has under a name
abbrev pub array_in : {A : Type 0} → (Data → A) → Data → List ℕ → Option (List A)
array_in read d name =
    option_map (λ items. map read (elements items)) (option_and_then as_array (get name d))

-- ---- the deposit schedule of a day

-- why an account has it: its lookback total, or 100,000.00 that was reached on a date, or since it
-- came in so
pub data Why : Type 0 where
  by_lookback : Why
  turned : Date → Why
  carried : Why

abbrev pub why_of : Reason → Why
why_of reason.Lookback = by_lookback
why_of (reason.Turned turn) = turned (date_of turn)
why_of reason.Carried = carried

-- a word, and beside `turned` the text of a date; beside another word none
abbrev pub alone : Why → List ℕ → Option Why
alone why [] = Some why
alone why (byte ∷ bytes) = None

abbrev pub why_read : List ℕ → List ℕ → Option Why
why_read word turn =
    option_and_then (λ why. why)
    (named_among ((codes "lookback", alone by_lookback turn)
    ∷ (codes "turned", option_map turned (day_read turn))
    ∷ (codes "carried", alone carried turn) ∷ []) word)

pub record ScheduleObject : Type 0 where
  pub day : Option Date
  pub kind : Option Kind
  pub why : Option Why

abbrev pub schedule_read : Data → ScheduleObject
schedule_read d = record {
  day = day_read (text_in d (codes "day"));
  kind = kind_read (text_in d (codes "kind"));
  why = why_read (text_in d (codes "reason")) (text_in d (codes "turn"));
}

abbrev pub schedule_object : ℕ → Kind → Reason → ScheduleObject
schedule_object day kind reason =
    record { day = Some (date_of day); kind = Some kind; why = Some (why_of reason) }

-- ---- an obligation: its first and last day, its rule, its amount in cents, and its due date

pub record ObligationObject : Type 0 where
  pub first : Option Date
  pub last : Option Date
  pub rule : Option Rule
  pub amount : Option ℕ
  pub due : Option Date

abbrev pub obligation_read : Data → ObligationObject
obligation_read d = record {
  first = day_read (text_in d (codes "first"));
  last = day_read (text_in d (codes "last"));
  rule = rule_read (text_in d (codes "rule"));
  amount = cents_read (text_in d (codes "amount"));
  due = day_read (text_in d (codes "due"));
}

abbrev pub obligation_object : Obligation → ObligationObject
obligation_object o = record {
  first = Some (date_of o.first);
  last = Some (date_of o.last);
  rule = Some o.rule;
  amount = Some o.cents.0;
  due = Some (date_of o.due);
}

-- ---- a payday: its liability, and that of the days up to it, in cents

pub record PaydayObject : Type 0 where
  pub day : Option Date
  pub amount : Option ℕ
  pub total : Option ℕ

abbrev pub payday_read : Data → PaydayObject
payday_read d = record {
  day = day_read (text_in d (codes "day"));
  amount = cents_read (text_in d (codes "amount"));
  total = cents_read (text_in d (codes "total"));
}

abbrev pub payday_object : RunningSum → PaydayObject
payday_object x =
    record { day = Some (date_of x.day); amount = Some x.cents.0; total = Some x.total.0 }

-- ---- a day that is counted to the due date, and what it is

pub record CountedObject : Type 0 where
  pub day : Option Date
  pub kind : Option DayKind

abbrev pub day_kind_read : List ℕ → Option DayKind
day_kind_read text =
    named_among ((codes "business", day_kind.Business) ∷ (codes "Saturday", day_kind.Saturday)
    ∷ (codes "Sunday", day_kind.Sunday) ∷ (codes "holiday", day_kind.Holiday) ∷ []) text

abbrev pub counted_read : Data → CountedObject
counted_read d = record {
  day = day_read (text_in d (codes "day"));
  kind = day_kind_read (text_in d (codes "is"));
}

abbrev pub counted_object : CountedDay → CountedObject
counted_object x = record { day = Some (date_of x.day); kind = Some x.kind }

-- ---- why an obligation is so: the schedule of its first day, its paydays, the days that are
-- counted, when the return is due, and its payments

pub record ExplanationObject : Type 0 where
  pub obligation : ObligationObject
  pub schedule : Option ScheduleObject
  pub paydays : Option (List PaydayObject)
  pub days : Option (List CountedObject)
  pub return_due : Option Date
  pub payments : Option (List PaymentObject)

abbrev pub explanation_read : Data → Data → ExplanationObject
explanation_read d obligation = record {
  obligation = obligation_read obligation;
  schedule = option_map schedule_read (get (codes "status") d);
  paydays = array_in payday_read d (codes "paydays");
  days = array_in counted_read d (codes "days");
  return_due = day_read (text_in d (codes "return_due"));
  payments = array_in payment_object_read d (codes "payments");
}

abbrev pub explanation_object : List ℕ → Explanation → ExplanationObject
explanation_object account e = record {
  obligation = obligation_object e.obligation;
  schedule = Some (schedule_object e.obligation.first e.kind e.reason);
  paydays = Some (map payday_object e.paydays);
  days = Some (map counted_object e.days);
  return_due = Some (date_of e.return_due);
  payments = Some (map (payment_object account) e.payments);
}

-- what was asked for, and the explanation, where there is an obligation; else it is null
pub record ExplainedObject : Type 0 where
  pub account : List ℕ
  pub day : Option Date
  pub found : Option (Option ExplanationObject)

abbrev pub explained_read : Data → ExplainedObject
explained_read d = record {
  account = text_in d (codes "account");
  day = day_read (text_in d (codes "day"));
  found = option_and_then (or_null (λ obligation. Some (explanation_read d obligation)))
      (get (codes "obligation") d);
}

abbrev pub explained_object : List ℕ → ℕ → Option Explanation → ExplainedObject
explained_object account day found = record {
  account = account;
  day = Some (date_of day);
  found = Some (option_map (explanation_object account) found);
}
