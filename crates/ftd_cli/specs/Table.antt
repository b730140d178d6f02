-- The subcommands and their words.
use Rattle.std.specs.Prelude.{ℕ, List, [], ◌∷◌, Bool, true, false, codes, pos}
use Rattle.ftd_cli.specs.declared.table.TheConstants.{LARGEST_NUMBER, LAST_PORT, MOST_CONNECTIONS}
use Rattle.ftd_csv.specs.declared.sheets.Sheet.{Sheet}
use Rattle.ftd_csv.specs.declared.sheets.Sheet.TheVariants as sheet
use Rattle.ftd_verbs.specs.FieldRows.{kind_of}
use Rattle.ftd_verbs.specs.Rows.{row_of}
use Rattle.ftd_verbs.specs.declared.field.Field.{Field}
use Rattle.ftd_verbs.specs.declared.field.Field.TheVariants as field
use Rattle.ftd_verbs.specs.declared.field.Kind.{Kind}
use Rattle.ftd_verbs.specs.declared.field.Kind.TheVariants as kind
use Rattle.ftd_verbs.specs.declared.formats.Formats.{Formats}
use Rattle.ftd_verbs.specs.declared.formats.Formats.TheVariants as formats
use Rattle.ftd_verbs.specs.declared.rows.Verb.TheVariants as verb
use Rattle.ftd_cli.specs.declared.table.Name.{Name}
use Rattle.ftd_cli.specs.declared.table.Name.TheVariants as name
use Rattle.ftd_cli.specs.declared.table.Word.{Word}
use Rattle.ftd_cli.specs.declared.table.Word.TheVariants as word
use Rattle.ftd_cli.specs.declared.table.Takes.{Takes}
use Rattle.ftd_cli.specs.declared.table.Takes.TheVariants as takes

-- the import of a sheet as it is written
abbrev pub sheet_text : Sheet → List ℕ
sheet_text sheet.Runs = codes "import"
sheet_text sheet.Accounts = codes "import-accounts"
sheet_text sheet.Totals = codes "import-reported"
sheet_text sheet.Payments = codes "import-payments"

-- the subcommand as it is written
abbrev pub name_text : Name → List ℕ
name_text name.Plain = codes "plain"
name_text name.Serve = codes "serve"
name_text name.Shell = codes "shell"
name_text name.Journal = codes "journal"
name_text name.Check = codes "check"
name_text name.Backup = codes "backup"
name_text (name.Import sheet) = sheet_text sheet
name_text name.OpenYears = codes "open-years"
name_text name.Settle = codes "settle"
name_text (name.Verb verb) = (row_of verb).command

-- the words of a verb but for its fields: a format is asked for where there are several
abbrev pub words_with : Formats → List Word
words_with formats.Fixed = word.Db ∷ word.Wait ∷ []
words_with formats.Explanation = word.Db ∷ word.Wait ∷ word.Format formats.Explanation ∷ []
words_with formats.List = word.Db ∷ word.Wait ∷ word.Format formats.List ∷ []
words_with formats.Calendar = word.Db ∷ word.Wait ∷ word.Format formats.Calendar ∷ []

-- the words of a subcommand, in their order, but for the fields of its verb
abbrev pub words_of : Name → List Word
words_of name.Plain = word.Field field.Account ∷ word.Field field.Year ∷ word.Holidays ∷ []
words_of name.Serve =
    word.Db ∷ word.Wait ∷ word.Port ∷ word.Connections ∷ word.Idle ∷ word.Silence ∷ word.Duration
    ∷ word.Unchecked ∷ []
words_of name.Shell =
    word.Db ∷ word.Wait ∷ word.Echo ∷ word.Stop ∷ word.Script ∷ []
words_of name.Journal = word.Db ∷ word.Wait ∷ word.JournalAccount ∷ []
words_of name.Check = word.Db ∷ word.Wait ∷ []
words_of name.Backup = word.Db ∷ word.Wait ∷ word.CopyFile ∷ []
words_of (name.Import sheet) = word.Db ∷ word.Wait ∷ word.Check ∷ word.CsvFile ∷ []
words_of name.OpenYears = word.Db ∷ word.Wait ∷ word.Field field.Year ∷ []
words_of name.Settle =
    word.Db ∷ word.Wait ∷ word.Field field.Account ∷ word.DueDay ∷ word.PaidDay ∷ []
words_of (name.Verb verb) = words_with (row_of verb).formats

-- every command but one takes the file of a desk
abbrev pub takes_file : Name → Bool
takes_file name.Plain = false
takes_file other = true

-- the fields of its verb, which come behind its words
abbrev pub fields_in : Name → List Field
fields_in (name.Verb verb) = (row_of verb).fields
fields_in other = []

-- the word that gives a field
abbrev pub field_text : Field → List ℕ
field_text field.Account = codes "ACCOUNT"
field_text field.Start = codes "START"
field_text field.Carried = codes "carried"
field_text field.Form = codes "form"
field_text field.Year = codes "YEAR"
field_text field.Days = codes "DAY"
field_text field.Quarter = codes "QUARTER"
field_text field.Amount = codes "AMOUNT"
field_text field.Run = codes "RUN"
field_text field.RunToVoid = codes "RUN"
field_text field.Payday = codes "PAYDAY"
field_text field.Fit = codes "FIT"
field_text field.Ss = codes "SS"
field_text field.Medicare = codes "MEDICARE"
field_text field.Payment = codes "PAYMENT"
field_text field.PaymentToVoid = codes "PAYMENT"
field_text field.Paid = codes "PAID"
field_text field.For = codes "FOR"
field_text field.Number = codes "number"
field_text field.IsHoliday = codes "HOLIDAY"
field_text field.Day = codes "DAY"
field_text field.AsOf = codes "ASOF"
field_text field.AsOfToday = codes "ASOF"
field_text field.From = codes "FROM"
field_text field.To = codes "TO"
field_text field.Until = codes "UNTIL"
field_text field.LastDay = codes "UNTIL"

-- the name of a word
abbrev pub word_text : Word → List ℕ
word_text word.Db = codes "db"
word_text word.Wait = codes "wait"
word_text word.Port = codes "port"
word_text word.Connections = codes "connections"
word_text word.Idle = codes "idle"
word_text word.Silence = codes "silence"
word_text word.Duration = codes "duration"
word_text word.Unchecked = codes "unchecked"
word_text word.CopyFile = codes "COPY"
word_text word.CsvFile = codes "CSVFILE"
word_text word.Check = codes "check"
word_text word.Script = codes "SCRIPT"
word_text word.Echo = codes "echo"
word_text word.Stop = codes "stop"
word_text word.JournalAccount = codes "ACCOUNT"
word_text word.DueDay = codes "DUE"
word_text word.PaidDay = codes "PAID"
word_text word.Holidays = codes "HOLIDAY"
word_text (word.Format formats) = codes "format"
word_text (word.Field at) = field_text at

-- the word of a field of this kind stands behind two hyphens
abbrev pub is_kind_option : Kind → Bool
is_kind_option kind.NumberOrNext = true
is_kind_option kind.Mark = true
is_kind_option kind.Form = true
is_kind_option other = false

-- a word that stands behind two hyphens
abbrev pub is_option : Word → Bool
is_option word.CsvFile = false
is_option word.CopyFile = false
is_option word.Script = false
is_option word.Holidays = false
is_option word.JournalAccount = false
is_option word.DueDay = false
is_option word.PaidDay = false
is_option (word.Field at) = is_kind_option (kind_of at)
is_option other = true

-- what the word of a field of this kind takes
abbrev pub kind_takes : Kind → Takes
kind_takes kind.Account = takes.Text
kind_takes kind.Number = takes.Number (pos 0) LARGEST_NUMBER
kind_takes kind.NewNumber = takes.Text
kind_takes kind.NumberOrNext = takes.OptionalNumber (pos 0) LARGEST_NUMBER
kind_takes kind.Year = takes.Number (pos 0) LARGEST_NUMBER
kind_takes kind.Day = takes.Text
kind_takes kind.DayOrOther = takes.Optional
kind_takes kind.DayOrToday = takes.Optional
kind_takes kind.Days = takes.Texts
kind_takes kind.Quarter = takes.Text
kind_takes kind.Amount = takes.Text
kind_takes kind.Mark = takes.Nothing
kind_takes kind.Answer = takes.Text
kind_takes kind.Form = takes.Form

-- a day that is today where it is left out
abbrev pub is_day_or_today : Kind → Bool
is_day_or_today kind.DayOrToday = true
is_day_or_today other = false

abbrev pub may_be_today : Word → Bool
may_be_today word.PaidDay = true
may_be_today (word.Field at) = is_day_or_today (kind_of at)
may_be_today other = false

-- what a word takes
abbrev pub takes_of : Word → Takes
takes_of word.Db = takes.Text
takes_of word.Wait = takes.Wait
takes_of word.Port = takes.Number (pos 0) LAST_PORT
takes_of word.Connections = takes.Number (pos 1) MOST_CONNECTIONS
takes_of word.Idle = takes.Idle
takes_of word.Silence = takes.Silence
takes_of word.Duration = takes.Duration
takes_of word.CsvFile = takes.Text
takes_of word.CopyFile = takes.Text
takes_of word.Unchecked = takes.Nothing
takes_of word.Check = takes.Nothing
takes_of word.Echo = takes.Nothing
takes_of word.Stop = takes.Nothing
takes_of word.Script = takes.Script
takes_of word.JournalAccount = takes.Optional
takes_of word.DueDay = takes.Text
takes_of word.PaidDay = takes.Optional
takes_of word.Holidays = takes.Texts
takes_of (word.Format formats) = takes.Format
takes_of (word.Field at) = kind_takes (kind_of at)

-- what takes any number of values
abbrev pub takes_many : Takes → Bool
takes_many takes.Texts = true
takes_many _ = false

-- the subcommands, in the order in which an employer needs them
abbrev pub all_names : List Name
all_names =
    name.Verb verb.Calendar
    ∷ name.Verb verb.Enrol
    ∷ name.Verb verb.Report
    ∷ name.Verb verb.ReportYear
    ∷ name.Verb verb.OpenYear
    ∷ name.OpenYears
    ∷ name.Verb verb.Post
    ∷ name.Import sheet.Accounts
    ∷ name.Import sheet.Totals
    ∷ name.Import sheet.Runs
    ∷ name.Import sheet.Payments
    ∷ name.Verb verb.DueList
    ∷ name.Verb verb.Agenda
    ∷ name.Verb verb.Owed
    ∷ name.Verb verb.Pay
    ∷ name.Settle
    ∷ name.Verb verb.Unapplied
    ∷ name.Verb verb.Status
    ∷ name.Verb verb.Explain
    ∷ name.Verb verb.ScheduleB
    ∷ name.Verb verb.Accounts
    ∷ name.Verb verb.Years
    ∷ name.Verb verb.Reported
    ∷ name.Verb verb.Holidays
    ∷ name.Verb verb.Runs
    ∷ name.Verb verb.Payments
    ∷ name.Verb verb.Void
    ∷ name.Verb verb.VoidPay
    ∷ name.Verb verb.AddHoliday
    ∷ name.Verb verb.CorrectReport
    ∷ name.Verb verb.CorrectReportYear
    ∷ name.Verb verb.CorrectAccount
    ∷ name.Verb verb.ChangeHoliday
    ∷ name.Journal
    ∷ name.Check
    ∷ name.Backup
    ∷ name.Shell
    ∷ name.Plain
    ∷ name.Serve ∷ []
