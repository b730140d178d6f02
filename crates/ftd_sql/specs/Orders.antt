-- In which order the rows of a reading follow one another.
use Rattle.std.specs.Prelude.{◌≡◌, ◌⊎◌, ◌<ℤ◌, ◌≤ℤ◌}
use Rattle.std.specs.Ordering.{nat_cmp}
use Rattle.std.specs.declared.cmp.Ordering.TheVariants.{Less}
use Rattle.std.specs.Cmp.Lexicographic.{slice_cmp}
use Rattle.ftd_sql.specs.Rows.{AccountRow, FormRow, ReportedQuarterRow, ReportedYearRow}
use Rattle.ftd_sql.specs.Rows.{HolidayRow, YearRow, RunRow, PaymentRow, ObligationRow}
use Rattle.ftd_sql.specs.Rows.{CorrectedQuarterRow, CorrectedYearRow, ChangedHolidayRow}
use Rattle.ftd_sql.specs.Rows.{CorrectedAccountRow}

-- by name
abbrev pub NamesRise : AccountRow → AccountRow → Type 0
NamesRise a b = (slice_cmp nat_cmp a.name b.name ≡ Less) ⊎ (a.name ≡ b.name)

abbrev pub FormsRise : FormRow → FormRow → Type 0
FormsRise a b = (slice_cmp nat_cmp a.account b.account ≡ Less) ⊎ (a.account ≡ b.account)

-- by quarter, and by year
abbrev pub QuartersRise : ReportedQuarterRow → ReportedQuarterRow → Type 0
QuartersRise a b = (a.year <ℤ b.year) ⊎ ((a.year ≡ b.year) × (a.quarter ≤ℤ b.quarter))

abbrev pub ReportedYearsRise : ReportedYearRow → ReportedYearRow → Type 0
ReportedYearsRise a b = a.year ≤ℤ b.year

-- the corrections of one quarter, of one year and of the account itself: by number
abbrev pub CorrectionsRise : CorrectedQuarterRow → CorrectedQuarterRow → Type 0
CorrectionsRise a b = a.number ≤ℤ b.number

abbrev pub YearCorrectionsRise : CorrectedYearRow → CorrectedYearRow → Type 0
YearCorrectionsRise a b = a.number ≤ℤ b.number

abbrev pub AccountCorrectionsRise : CorrectedAccountRow → CorrectedAccountRow → Type 0
AccountCorrectionsRise a b = a.number ≤ℤ b.number

-- by day, and by number on one day
abbrev pub HolidayChangesRise : ChangedHolidayRow → ChangedHolidayRow → Type 0
HolidayChangesRise a b = (a.day <ℤ b.day) ⊎ ((a.day ≡ b.day) × (a.number ≤ℤ b.number))

-- by day
abbrev pub HolidaysRise : HolidayRow → HolidayRow → Type 0
HolidaysRise a b = a.day ≤ℤ b.day

-- by year
abbrev pub YearsRise : YearRow → YearRow → Type 0
YearsRise a b = a.year ≤ℤ b.year

-- by payday, and by number on one day
abbrev pub RunsRise : RunRow → RunRow → Type 0
RunsRise a b = (a.payday <ℤ b.payday) ⊎ ((a.payday ≡ b.payday) × (a.number ≤ℤ b.number))

-- by the day that they are for, and by number on one day
abbrev pub PaymentsRise : PaymentRow → PaymentRow → Type 0
PaymentsRise a b = (a.for_day <ℤ b.for_day) ⊎ ((a.for_day ≡ b.for_day) × (a.number ≤ℤ b.number))

-- by first day
abbrev pub ObligationsRise : ObligationRow → ObligationRow → Type 0
ObligationsRise a b = a.first ≤ℤ b.first

-- by account, and by first day in one account
abbrev pub AccountsRise : ObligationRow → ObligationRow → Type 0
AccountsRise a b =
    (slice_cmp nat_cmp a.account b.account ≡ Less)
    ⊎ ((a.account ≡ b.account) × (a.first ≤ℤ b.first))
