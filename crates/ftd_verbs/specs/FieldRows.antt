-- The fields: how each is named, and of which kind its values are.
use Rattle.std.specs.Prelude.{ℕ, List, codes}
use Rattle.ftd_verbs.specs.declared.field.Field.{Field}
use Rattle.ftd_verbs.specs.declared.field.Field.TheVariants as field
use Rattle.ftd_verbs.specs.declared.field.Kind.{Kind}
use Rattle.ftd_verbs.specs.declared.field.Kind.TheVariants as kind

-- its name: that of a member of a body, and in a path, between braces
abbrev pub key_of : Field → List ℕ
key_of field.Account = codes "account"
key_of field.Start = codes "start"
key_of field.Carried = codes "carried"
key_of field.Form = codes "form"
key_of field.Year = codes "year"
key_of field.Days = codes "days"
key_of field.Quarter = codes "quarter"
key_of field.Amount = codes "amount"
key_of field.Run = codes "run"
key_of field.RunToVoid = codes "run"
key_of field.Payday = codes "payday"
key_of field.Fit = codes "fit"
key_of field.Ss = codes "ss"
key_of field.Medicare = codes "medicare"
key_of field.Payment = codes "payment"
key_of field.PaymentToVoid = codes "payment"
key_of field.Paid = codes "paid"
key_of field.For = codes "for"
key_of field.Number = codes "number"
key_of field.IsHoliday = codes "holiday"
key_of field.Day = codes "day"
key_of field.AsOf = codes "asof"
key_of field.AsOfToday = codes "asof"
key_of field.From = codes "from"
key_of field.To = codes "to"
key_of field.Until = codes "until"
key_of field.LastDay = codes "until"

-- the kind of its values
abbrev pub kind_of : Field → Kind
kind_of field.Account = kind.Account
kind_of field.Start = kind.Day
kind_of field.Carried = kind.Mark
kind_of field.Form = kind.Form
kind_of field.Year = kind.Year
kind_of field.Days = kind.Days
kind_of field.Quarter = kind.Quarter
kind_of field.Amount = kind.Amount
kind_of field.Run = kind.NewNumber
kind_of field.RunToVoid = kind.Number
kind_of field.Payday = kind.Day
kind_of field.Fit = kind.Amount
kind_of field.Ss = kind.Amount
kind_of field.Medicare = kind.Amount
kind_of field.Payment = kind.NewNumber
kind_of field.PaymentToVoid = kind.Number
kind_of field.Paid = kind.Day
kind_of field.For = kind.Day
kind_of field.Number = kind.NumberOrNext
kind_of field.IsHoliday = kind.Answer
kind_of field.Day = kind.Day
kind_of field.AsOf = kind.Day
kind_of field.AsOfToday = kind.DayOrToday
kind_of field.From = kind.DayOrToday
kind_of field.To = kind.DayOrOther
kind_of field.Until = kind.DayOrOther
kind_of field.LastDay = kind.DayOrOther
