-- The words of a form: of its verb, and of its fields.
use Rattle.std.specs.Prelude.{ℕ, List, [], codes}
use Rattle.ftd_verbs.specs.declared.field.Field.{Field}
use Rattle.ftd_verbs.specs.declared.field.Field.TheVariants as field
use Rattle.ftd_verbs.specs.declared.rows.Verb.{Verb}
use Rattle.ftd_verbs.specs.declared.rows.Verb.TheVariants as verb

-- what a verb does, which is the title of its form and is on its button; a question has no form
abbrev pub title_of : Verb → List ℕ
title_of verb.Enrol = codes "Enrol an account"
title_of verb.Calendar = codes "Enter the legal holidays of a year"
title_of verb.AddHoliday = codes "Add a legal holiday"
title_of verb.Report = codes "Report a quarter (Form 941)"
title_of verb.ReportYear = codes "Report a year (Form 943)"
title_of verb.OpenYear = codes "Open a year"
title_of verb.Post = codes "Post a pay run"
title_of verb.Void = codes "Void a pay run"
title_of verb.Pay = codes "Record a payment"
title_of verb.VoidPay = codes "Void a payment"
title_of verb.CorrectReport = codes "Correct a reported quarter (Form 941)"
title_of verb.CorrectReportYear = codes "Correct a reported year (Form 943)"
title_of verb.ChangeHoliday = codes "Correct a legal holiday"
title_of verb.CorrectAccount = codes "Correct an account"
title_of _ = []

-- what a clerk should know of it
abbrev pub sentence_of : Verb → List ℕ
sentence_of verb.Enrol = codes "Enter each employer once."
sentence_of verb.Calendar =
    codes "Due dates depend on the legal holidays in the District of Columbia."
sentence_of verb.AddHoliday =
    codes "Add a holiday to a year that was entered. Due dates that depend on it move."
sentence_of verb.Report = codes "Enter the total tax of the quarter, as on its Form 941."
sentence_of verb.ReportYear = codes "Enter the total tax of the year, as on its Form 943."
sentence_of verb.OpenYear = codes "An account takes pay runs in its open years."
sentence_of verb.Post =
    codes "Enter the taxes of one payday. The deposit and its due date follow from them."
sentence_of verb.Void =
    codes "A void pay run counts for nothing. It stays in the lists, marked as void."
sentence_of verb.Pay = codes "It counts for the deposit period that includes the day under For."
sentence_of verb.VoidPay =
    codes "A void payment counts for nothing. It stays in the lists, marked as void."
sentence_of verb.CorrectReport =
    codes "The last correction counts. What was first reported stays on record."
sentence_of verb.CorrectReportYear =
    codes "The last correction counts. What was first reported stays on record."
sentence_of verb.ChangeHoliday =
    codes "The last change counts. The holidays that were entered stay on record."
sentence_of verb.CorrectAccount =
    codes "This works as long as no total is reported and no year is open."
sentence_of _ = []

-- the label of the control of a field: the word of its column, where a list has one; what only
-- questions have has none
abbrev pub label_of : Field → List ℕ
label_of field.Account = codes "Account"
label_of field.Start = codes "First day"
label_of field.Carried = codes "Carried"
label_of field.Form = codes "Form"
label_of field.Year = codes "Year"
label_of field.Days = codes "Legal holidays"
label_of field.Quarter = codes "Quarter"
label_of field.Amount = codes "Amount"
label_of field.Run = codes "Run"
label_of field.RunToVoid = codes "Run"
label_of field.Payday = codes "Payday"
label_of field.Fit = codes "Income tax"
label_of field.Ss = codes "Social security"
label_of field.Medicare = codes "Medicare"
label_of field.Payment = codes "Payment"
label_of field.PaymentToVoid = codes "Payment"
label_of field.Paid = codes "Paid on"
label_of field.For = codes "For"
label_of field.Number = codes "Correction"
label_of field.IsHoliday = codes "Holiday"
label_of field.Day = codes "Day"
label_of _ = []

-- the help of the control of a field
abbrev pub help_of : Field → List ℕ
help_of field.Account =
    codes "The name of the account: a lower-case letter, then letters, digits or hyphens."
help_of field.Start = codes "The first day of the employer."
help_of field.Carried =
    codes "Check this if the account became semiweekly in the year before its first open year."
help_of field.Form = codes "The form that the employer files."
help_of field.Year = codes "The year, as 2024."
help_of field.Days = codes "In ascending order, one a line, as 2024-05-27."
help_of field.Quarter = codes "The quarter, as 2024Q1."
help_of field.Amount = codes "The amount in dollars, as 1234.50."
help_of field.Run = codes "The number of the new pay run."
help_of field.RunToVoid = codes "The number of the pay run to void."
help_of field.Payday = codes "The day on which the wages are paid."
help_of field.Fit = codes "The federal income tax withheld, as 1234.50."
help_of field.Ss = codes "Both shares of social security tax, as 1234.50."
help_of field.Medicare = codes "Both shares of Medicare tax, as 1234.50."
help_of field.Payment = codes "The number of the new payment."
help_of field.PaymentToVoid = codes "The number of the payment to void."
help_of field.Paid = codes "The day on which it was paid."
help_of field.For = codes "A day of the deposit period that it is paid for."
help_of field.Number = codes "The number of the correction. Leave it empty for the next one."
help_of field.IsHoliday = codes "Whether the day is a legal holiday."
help_of field.Day = codes "The day of the holiday."
help_of _ = []
