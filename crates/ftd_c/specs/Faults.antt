-- The faults of the functions for C, and their numbers.
use Rattle.std.specs.Prelude.{ℕ}
use Rattle.ftd_days.specs.declared.holidays.CalendarFault.{CalendarFault}
use Rattle.ftd_days.specs.declared.holidays.CalendarFault.TheVariants as calendar
use Rattle.ftd_c.specs.declared.codes.CallFault.{CallFault}
use Rattle.ftd_c.specs.declared.codes.CallFault.TheVariants as fault
use Rattle.ftd_c.specs.Calls.{no_memory, out_of_range}

-- the fault of a calendar
abbrev pub call_fault : CalendarFault → CallFault
call_fault calendar.BadCalendar = fault.OutOfRange
call_fault calendar.Memory = fault.Memory

-- what is answered in place of a day
abbrev pub code_of : CallFault → ℕ
code_of fault.OutOfRange = out_of_range
code_of fault.Memory = no_memory
