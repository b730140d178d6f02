-- The faults of `plain`: where they come from, and their texts.
use Rattle.std.specs.Prelude.{ℕ, List, ◌++◌, codes}
use Rattle.std.specs.Fmt.{decimal}
use Rattle.ftd_days.specs.declared.holidays.CalendarFault.{CalendarFault}
use Rattle.ftd_days.specs.declared.holidays.CalendarFault.TheVariants as calendar
use Rattle.ftd_csv.specs.declared.reading.RecordFault.{RecordFault}
use Rattle.ftd_csv.specs.declared.reading.RecordFault.TheVariants as records
use Rattle.ftd_plain.specs.declared.fault.PlainFault.{PlainFault}
use Rattle.ftd_plain.specs.declared.fault.PlainFault.TheVariants as fault

-- the fault of a calendar as one of `plain`
abbrev pub plain_fault : CalendarFault → PlainFault
plain_fault calendar.BadCalendar = fault.BadCalendar
plain_fault calendar.Memory = fault.Memory

-- the fault of a text of records as one of `plain`
abbrev pub text_fault : RecordFault → PlainFault
text_fault records.BadHeader = fault.BadHeader
text_fault records.TooLong = fault.TooLong
text_fault records.Memory = fault.Memory

-- what is printed of a fault on standard error, without the line's end
abbrev pub fault_text : PlainFault → List ℕ
fault_text fault.BadHeader = codes "refused header"
fault_text fault.TooLong = codes "refused length"
fault_text (fault.Malformed number field) =
    codes "record " ++ (decimal number ++ (codes " malformed field " ++ decimal field))
fault_text (fault.RunDiffers number) = codes "run " ++ (decimal number ++ codes " differs")
fault_text fault.TooManyRuns = codes "refused 19 TooManyRuns"
fault_text fault.BadCalendar = codes "refused 5 BadCalendar"
fault_text fault.Memory = codes "failed 21 Memory"
