-- The numbers and the names of the refusals, and what they name.
use Rattle.std.specs.Prelude.{ℕ, Bool, true, false, List, codes}
use Rattle.ftd_machine.specs.declared.replies.Subject.{Subject}
use Rattle.ftd_machine.specs.declared.replies.Subject.TheVariants as subject
use Rattle.ftd_machine.specs.declared.replies.Refusal.{Refusal}
use Rattle.ftd_machine.specs.declared.replies.Refusal.TheVariants.{BadName, BadYear, BadDay}
use Rattle.ftd_machine.specs.declared.replies.Refusal.TheVariants.{BadCents, BadCalendar, BadNumber}
use Rattle.ftd_machine.specs.declared.replies.Refusal.TheVariants.{UnknownAccount, AccountDiffers}
use Rattle.ftd_machine.specs.declared.replies.Refusal.TheVariants.{CalendarDiffers, QuarterDiffers}
use Rattle.ftd_machine.specs.declared.replies.Refusal.TheVariants.{RunDiffers, PaymentDiffers}
use Rattle.ftd_machine.specs.declared.replies.Refusal.TheVariants.{UnknownRun, UnknownPayment}
use Rattle.ftd_machine.specs.declared.replies.Refusal.TheVariants.{BeforeStart, CalendarMissing}
use Rattle.ftd_machine.specs.declared.replies.Refusal.TheVariants.{QuarterMissing, YearNotOpen}
use Rattle.ftd_machine.specs.declared.replies.Refusal.TheVariants.{TooManyRuns, TooManyPayments}
use Rattle.ftd_machine.specs.declared.replies.Refusal.TheVariants.{Memory, Store, WrongForm}
use Rattle.ftd_machine.specs.declared.replies.Refusal.TheVariants.{YearDiffers, YearMissing}
use Rattle.ftd_machine.specs.declared.replies.Refusal.TheVariants.{CorrectionDiffers}
use Rattle.ftd_machine.specs.declared.replies.Refusal.TheVariants.{NumberSkipped, NoHoliday}
use Rattle.ftd_machine.specs.declared.replies.Refusal.TheVariants.{AccountInUse}

abbrev pub number_of : Refusal → ℕ
number_of BadName = 1
number_of BadYear = 2
number_of BadDay = 3
number_of BadCents = 4
number_of BadCalendar = 5
number_of BadNumber = 6
number_of UnknownAccount = 7
number_of AccountDiffers = 8
number_of CalendarDiffers = 9
number_of QuarterDiffers = 10
number_of RunDiffers = 11
number_of PaymentDiffers = 12
number_of UnknownRun = 13
number_of UnknownPayment = 14
number_of BeforeStart = 15
number_of (CalendarMissing year) = 16
number_of (QuarterMissing quarter) = 17
number_of (YearNotOpen year) = 18
number_of TooManyRuns = 19
number_of TooManyPayments = 20
number_of Memory = 21
number_of Store = 22
number_of WrongForm = 23
number_of YearDiffers = 24
number_of (YearMissing year) = 25
number_of CorrectionDiffers = 26
number_of (NumberSkipped count) = 27
number_of NoHoliday = 28
number_of AccountInUse = 29

abbrev pub name_text : Refusal → List ℕ
name_text BadName = codes "BadName"
name_text BadYear = codes "BadYear"
name_text BadDay = codes "BadDay"
name_text BadCents = codes "BadCents"
name_text BadCalendar = codes "BadCalendar"
name_text BadNumber = codes "BadNumber"
name_text UnknownAccount = codes "UnknownAccount"
name_text AccountDiffers = codes "AccountDiffers"
name_text CalendarDiffers = codes "CalendarDiffers"
name_text QuarterDiffers = codes "QuarterDiffers"
name_text RunDiffers = codes "RunDiffers"
name_text PaymentDiffers = codes "PaymentDiffers"
name_text UnknownRun = codes "UnknownRun"
name_text UnknownPayment = codes "UnknownPayment"
name_text BeforeStart = codes "BeforeStart"
name_text (CalendarMissing year) = codes "CalendarMissing"
name_text (QuarterMissing quarter) = codes "QuarterMissing"
name_text (YearNotOpen year) = codes "YearNotOpen"
name_text TooManyRuns = codes "TooManyRuns"
name_text TooManyPayments = codes "TooManyPayments"
name_text Memory = codes "Memory"
name_text Store = codes "Store"
name_text WrongForm = codes "WrongForm"
name_text YearDiffers = codes "YearDiffers"
name_text (YearMissing year) = codes "YearMissing"
name_text CorrectionDiffers = codes "CorrectionDiffers"
name_text (NumberSkipped count) = codes "NumberSkipped"
name_text NoHoliday = codes "NoHoliday"
name_text AccountInUse = codes "AccountInUse"

-- a failure, and no refusal: there was no memory, or the store failed
abbrev pub is_failure : Refusal → Bool
is_failure Memory = true
is_failure Store = true
is_failure other = false

-- what it names
abbrev pub subject_of : Refusal → Subject
subject_of (CalendarMissing year) = subject.Year year
subject_of (QuarterMissing quarter) = subject.Quarter quarter
subject_of (YearNotOpen year) = subject.Year year
subject_of (YearMissing year) = subject.Year year
subject_of (NumberSkipped count) = subject.Number count
subject_of other = subject.Nothing
