-- The verbs: how each is asked, and what it takes.
use Rattle.std.specs.Prelude.{ℕ, List, [], ◌∷◌, codes, map, Bool, true, false}
use Rattle.ftd_verbs.specs.declared.field.Field.{Field}
use Rattle.ftd_verbs.specs.declared.field.Field.TheVariants as field
use Rattle.ftd_verbs.specs.declared.formats.Formats.{Formats}
use Rattle.ftd_verbs.specs.declared.formats.Formats.TheVariants as formats
use Rattle.ftd_verbs.specs.declared.rows.Method.{Method}
use Rattle.ftd_verbs.specs.declared.rows.Method.TheVariants as method
use Rattle.ftd_verbs.specs.declared.rows.Part.{Part}
use Rattle.ftd_verbs.specs.declared.rows.Part.TheVariants as part
use Rattle.ftd_verbs.specs.declared.rows.Row.{Row}
use Rattle.ftd_verbs.specs.declared.rows.Verb.{Verb}
use Rattle.ftd_verbs.specs.declared.rows.Verb.TheVariants as verb

-- a part of a path is a text, or gives a field
pub data PathPart : Type 0 where
  text : List ℕ → PathPart
  of : Field → PathPart

-- the command that asks a verb; the method and the path of a message that asks it; its fields, in
-- the order in which they are read; and the formats in which its answer may be asked for
pub record VerbRow : Type 0 where
  pub command : List ℕ
  pub method : Method
  pub path : List PathPart
  pub fields : List Field
  pub formats : Formats

-- a row as it stands in the code
abbrev pub part_seen : Part → PathPart
part_seen (part.Text t) = text t.now
part_seen (part.Of at) = of at

abbrev pub row_seen : Row → VerbRow
row_seen row = record {
  command = row.command.now;
  method = row.method;
  path = map part_seen row.path.now;
  fields = row.fields.now;
  formats = row.formats;
}

-- the verbs
abbrev pub all_verbs : List Verb
all_verbs =
    verb.Enrol
    ∷ verb.Calendar
    ∷ verb.AddHoliday
    ∷ verb.Report
    ∷ verb.ReportYear
    ∷ verb.OpenYear
    ∷ verb.Post
    ∷ verb.Void
    ∷ verb.Pay
    ∷ verb.VoidPay
    ∷ verb.CorrectReport
    ∷ verb.CorrectReportYear
    ∷ verb.ChangeHoliday
    ∷ verb.CorrectAccount
    ∷ verb.Status
    ∷ verb.Explain
    ∷ verb.DueList
    ∷ verb.ScheduleB
    ∷ verb.Agenda
    ∷ verb.Owed
    ∷ verb.Unapplied
    ∷ verb.Accounts
    ∷ verb.Years
    ∷ verb.Reported
    ∷ verb.Holidays
    ∷ verb.Runs
    ∷ verb.Payments ∷ []

-- what is said of each verb
abbrev pub row_of : Verb → VerbRow
row_of verb.Enrol = record {
  command = codes "enrol";
  method = method.Post;
  path = text (codes "accounts") ∷ [];
  fields = field.Account ∷ field.Start ∷ field.Carried ∷ field.Form ∷ [];
  formats = formats.Fixed;
}
row_of verb.Calendar = record {
  command = codes "calendar";
  method = method.Post;
  path = text (codes "calendars") ∷ [];
  fields = field.Year ∷ field.Days ∷ [];
  formats = formats.Fixed;
}
row_of verb.AddHoliday = record {
  command = codes "add-holiday";
  method = method.Post;
  path = text (codes "holidays") ∷ [];
  fields = field.Day ∷ [];
  formats = formats.Fixed;
}
row_of verb.Report = record {
  command = codes "report";
  method = method.Post;
  path = text (codes "accounts") ∷ of field.Account ∷ text (codes "reported") ∷ [];
  fields = field.Account ∷ field.Quarter ∷ field.Amount ∷ [];
  formats = formats.Fixed;
}
row_of verb.ReportYear = record {
  command = codes "report-year";
  method = method.Post;
  path = text (codes "accounts") ∷ of field.Account ∷ text (codes "reported-years") ∷ [];
  fields = field.Account ∷ field.Year ∷ field.Amount ∷ [];
  formats = formats.Fixed;
}
row_of verb.OpenYear = record {
  command = codes "open-year";
  method = method.Post;
  path = text (codes "accounts") ∷ of field.Account ∷ text (codes "years") ∷ [];
  fields = field.Account ∷ field.Year ∷ [];
  formats = formats.Fixed;
}
row_of verb.Post = record {
  command = codes "post";
  method = method.Post;
  path = text (codes "accounts") ∷ of field.Account ∷ text (codes "runs") ∷ [];
  fields = field.Account ∷ field.Run ∷ field.Payday ∷ field.Fit ∷ field.Ss ∷ field.Medicare ∷ [];
  formats = formats.Fixed;
}
row_of verb.Void = record {
  command = codes "void";
  method = method.Delete;
  path = text (codes "accounts") ∷ of field.Account ∷ text (codes "runs") ∷ of field.RunToVoid
      ∷ [];
  fields = field.Account ∷ field.RunToVoid ∷ [];
  formats = formats.Fixed;
}
row_of verb.Pay = record {
  command = codes "pay";
  method = method.Post;
  path = text (codes "accounts") ∷ of field.Account ∷ text (codes "payments") ∷ [];
  fields = field.Account ∷ field.Payment ∷ field.Paid ∷ field.For ∷ field.Amount ∷ [];
  formats = formats.Fixed;
}
row_of verb.VoidPay = record {
  command = codes "void-pay";
  method = method.Delete;
  path = text (codes "accounts") ∷ of field.Account ∷ text (codes "payments")
      ∷ of field.PaymentToVoid ∷ [];
  fields = field.Account ∷ field.PaymentToVoid ∷ [];
  formats = formats.Fixed;
}
row_of verb.CorrectReport = record {
  command = codes "correct-report";
  method = method.Put;
  path = text (codes "accounts") ∷ of field.Account ∷ text (codes "reported") ∷ of field.Quarter
      ∷ text (codes "corrections") ∷ of field.Number ∷ [];
  fields = field.Account ∷ field.Quarter ∷ field.Number ∷ field.Amount ∷ [];
  formats = formats.Fixed;
}
row_of verb.CorrectReportYear = record {
  command = codes "correct-report-year";
  method = method.Put;
  path = text (codes "accounts") ∷ of field.Account ∷ text (codes "reported-years")
      ∷ of field.Year ∷ text (codes "corrections") ∷ of field.Number ∷ [];
  fields = field.Account ∷ field.Year ∷ field.Number ∷ field.Amount ∷ [];
  formats = formats.Fixed;
}
row_of verb.ChangeHoliday = record {
  command = codes "change-holiday";
  method = method.Put;
  path = text (codes "holidays") ∷ of field.Day ∷ text (codes "changes") ∷ of field.Number ∷ [];
  fields = field.Day ∷ field.Number ∷ field.IsHoliday ∷ [];
  formats = formats.Fixed;
}
row_of verb.CorrectAccount = record {
  command = codes "correct-account";
  method = method.Put;
  path = text (codes "accounts") ∷ of field.Account ∷ text (codes "corrections") ∷ of field.Number
      ∷ [];
  fields = field.Account ∷ field.Number ∷ field.Start ∷ field.Carried ∷ [];
  formats = formats.Fixed;
}
row_of verb.Status = record {
  command = codes "status";
  method = method.Get;
  path = text (codes "accounts") ∷ of field.Account ∷ text (codes "status") ∷ of field.Day ∷ [];
  fields = field.Account ∷ field.Day ∷ [];
  formats = formats.Fixed;
}
row_of verb.Explain = record {
  command = codes "explain";
  method = method.Get;
  path = text (codes "accounts") ∷ of field.Account ∷ text (codes "explain") ∷ of field.Day ∷ [];
  fields = field.Account ∷ field.Day ∷ [];
  formats = formats.Explanation;
}
row_of verb.DueList = record {
  command = codes "due";
  method = method.Get;
  path = text (codes "accounts") ∷ of field.Account ∷ text (codes "due") ∷ of field.Quarter
      ∷ of field.AsOf ∷ [];
  fields = field.Account ∷ field.Quarter ∷ field.AsOf ∷ [];
  formats = formats.List;
}
row_of verb.ScheduleB = record {
  command = codes "schedule-b";
  method = method.Get;
  path = text (codes "accounts") ∷ of field.Account ∷ text (codes "schedule-b") ∷ of field.Quarter
      ∷ [];
  fields = field.Account ∷ field.Quarter ∷ [];
  formats = formats.List;
}
row_of verb.Agenda = record {
  command = codes "agenda";
  method = method.Get;
  path = text (codes "agenda") ∷ of field.From ∷ of field.To ∷ of field.AsOfToday ∷ [];
  fields = field.From ∷ field.To ∷ field.AsOfToday ∷ [];
  formats = formats.Calendar;
}
row_of verb.Owed = record {
  command = codes "owed";
  method = method.Get;
  path = text (codes "owed") ∷ of field.AsOfToday ∷ of field.Until ∷ [];
  fields = field.AsOfToday ∷ field.Until ∷ [];
  formats = formats.Calendar;
}
row_of verb.Unapplied = record {
  command = codes "unapplied";
  method = method.Get;
  path = text (codes "unapplied") ∷ of field.LastDay ∷ [];
  fields = field.LastDay ∷ [];
  formats = formats.List;
}
row_of verb.Accounts = record {
  command = codes "accounts";
  method = method.Get;
  path = text (codes "lists") ∷ text (codes "accounts") ∷ [];
  fields = [];
  formats = formats.List;
}
row_of verb.Years = record {
  command = codes "years";
  method = method.Get;
  path = text (codes "lists") ∷ text (codes "accounts") ∷ of field.Account ∷ text (codes "years")
      ∷ [];
  fields = field.Account ∷ [];
  formats = formats.List;
}
row_of verb.Reported = record {
  command = codes "reported";
  method = method.Get;
  path = text (codes "lists") ∷ text (codes "accounts") ∷ of field.Account
      ∷ text (codes "reported") ∷ [];
  fields = field.Account ∷ [];
  formats = formats.List;
}
row_of verb.Holidays = record {
  command = codes "holidays";
  method = method.Get;
  path = text (codes "lists") ∷ text (codes "holidays") ∷ of field.Year ∷ [];
  fields = field.Year ∷ [];
  formats = formats.List;
}
row_of verb.Runs = record {
  command = codes "runs";
  method = method.Get;
  path = text (codes "lists") ∷ text (codes "accounts") ∷ of field.Account ∷ text (codes "runs")
      ∷ of field.Quarter ∷ [];
  fields = field.Account ∷ field.Quarter ∷ [];
  formats = formats.List;
}
row_of verb.Payments = record {
  command = codes "payments";
  method = method.Get;
  path = text (codes "lists") ∷ text (codes "accounts") ∷ of field.Account
      ∷ text (codes "payments") ∷ of field.Quarter ∷ [];
  fields = field.Account ∷ field.Quarter ∷ [];
  formats = formats.List;
}

-- what corrects something is put, under a number of its own
abbrev pub is_put : Method → Bool
is_put method.Put = true
is_put method.Get = false
is_put method.Post = false
is_put method.Delete = false

abbrev pub is_correction : Verb → Bool
is_correction verb = is_put (row_of verb).method
