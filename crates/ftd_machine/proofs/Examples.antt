-- Worked examples over the definitions alone: what a desk answers to requests one after the other,
-- and what it keeps
-- then. A day is the number of days after 1 January 1900, a quarter that of quarters after the
-- first of 1900, an amount
-- its cents.
use Rattle.std.proofs.Common.{inl, refl, ℕ, Bool, false, true, List, [], ◌∷◌, Ok, Err}
use Rattle.std.specs.Prelude.{codes}
use Rattle.ftd_days.specs.Calendar.{month_of, month_from, month_start}
use Rattle.ftd_days.specs.declared.cents.Cents.{Cents}
use Rattle.ftd_rules.specs.declared.Form.{Form}
use Rattle.ftd_rules.specs.declared.Form.TheVariants.{F941, F943}
use Rattle.ftd_rules.specs.declared.payment.Payment.{Payment}
use Rattle.ftd_rules.specs.Accounts.{is_account_name}
use Rattle.ftd_machine.specs.declared.entries.Account.{Account}
use Rattle.ftd_machine.specs.State.{State, nothing}
use Rattle.ftd_machine.specs.Runs.{IsRun}
use Rattle.ftd_machine.specs.declared.replies.Reply.TheVariants.{Done, Already}
use Rattle.ftd_machine.specs.declared.replies.Refusal.TheVariants.{BadName, AccountDiffers}
use Rattle.ftd_machine.specs.declared.replies.Refusal.TheVariants.{CalendarDiffers, QuarterDiffers}
use Rattle.ftd_machine.specs.declared.replies.Refusal.TheVariants.{PaymentDiffers, UnknownAccount}
use Rattle.ftd_machine.specs.declared.replies.Refusal.TheVariants.{UnknownPayment, BeforeStart}
use Rattle.ftd_machine.specs.declared.replies.Refusal.TheVariants.{CalendarMissing, YearNotOpen}
use Rattle.ftd_machine.specs.declared.replies.Refusal.TheVariants.{WrongForm}
use Rattle.ftd_machine.specs.declared.requests.Request.{Request}
use Rattle.ftd_machine.specs.declared.requests.Request.TheVariants.{Enter, Pay, VoidPay}
use Rattle.ftd_machine.specs.declared.requests.Entry.TheVariants as entry
use Rattle.ftd_machine.specs.declared.entries.ReturnPeriod.{ReturnPeriod}
use Rattle.ftd_machine.specs.declared.entries.ReturnPeriod.TheVariants.{Quarter, Year}

-- one more request, after which the state is `next`
step : {Goes Rest : State → Type 0} (next : State) → Goes next → Rest next
    → (after : State) × Goes after × Rest after
step next goes rest = (next, goes, rest)

ash : List ℕ
ash = codes "ash"

cents : ℕ → Cents
cents amount = record { 0 = amount }

-- an account that starts on a day, on a form, and is not carried
begins : ℕ → Form → Account
begins start form = record { start = start; carried = false; form = form }

enrol : List ℕ → ℕ → Form → Request
enrol name start form = Enter (entry.Account name (begins start form))

-- `ash`, which starts on 2024-01-01, on Form 941
with_ash : State
with_ash =
    record nothing {
      accounts = record { name = codes "ash"; account = begins 45_290 F941 } ∷ [];
    }

-- enrolled once; with another first day or another form it differs, and `Ash` is no name
enrolled : IsRun nothing
    (enrol ash 45_290 F941 ∷ enrol ash 45_290 F941 ∷ enrol ash 45_291 F941
    ∷ enrol ash 45_290 F943 ∷ enrol (codes "Ash") 45_290 F941 ∷ [])
    (Ok Done ∷ Ok Already ∷ Err AccountDiffers ∷ Err AccountDiffers ∷ Err BadName ∷ []) with_ash
unfolding ash begins enrol with_ash is_account_name month_of month_from month_start
enrolled =
    step with_ash (inl (refl, refl)) (step with_ash (inl (refl, refl))
    (step with_ash (inl (refl, refl)) (step with_ash (inl (refl, refl))
    (step with_ash (inl (refl, refl)) refl))))

-- an amount is reported for a quarter or a year
report : List ℕ → ReturnPeriod → ℕ → Request
report name period amount = Enter (entry.Total name period (cents amount))

-- with 1.00 reported for 2024Q1
with_figure : State
with_figure = record with_ash {
  reported = record {
    name = codes "ash";
    key = 496;
    content = record { 0 = 100 };
  } ∷ [];
}

-- reported once; 2.00 differs; 2023Q4 ends before the first day; years are reported on Form 943;
-- `nobody` is not enrolled
reported : IsRun with_ash
    (report ash (Quarter 496) 100 ∷ report ash (Quarter 496) 100
    ∷ report ash (Quarter 496) 200 ∷ report ash (Quarter 495) 100
    ∷ report ash (Year 2024) 100 ∷ report (codes "nobody") (Quarter 496) 100 ∷ [])
    (Ok Done ∷ Ok Already ∷ Err QuarterDiffers ∷ Err BeforeStart ∷ Err WrongForm
    ∷ Err UnknownAccount ∷ []) with_figure
unfolding ash cents begins report with_ash with_figure is_account_name month_of month_from
    month_start
reported =
    step with_figure (inl (refl, refl)) (step with_figure (inl (refl, refl))
    (step with_figure (inl (refl, refl)) (step with_figure (inl (refl, refl))
    (step with_figure (inl (refl, refl)) (step with_figure (inl (refl, refl)) refl)))))

-- the holidays of 2024 are given, and one is added to a year
calendar : List ℕ → Request
calendar days = Enter (entry.Calendar 2024 days)

holiday : ℕ → Request
holiday day = Enter (entry.Holiday day)

-- 27 May 2024 given as a holiday, and 29 May added
given : State
given = record nothing { calendars = record { year = 2024; days = 45_437 ∷ [] } ∷ [] }

added : State
added = record given { added_days = 45_439 ∷ [] }

-- the added day is a holiday from then on, and the calendar is compared as it was given; 2026 is
-- not given
holidays_added : IsRun nothing
    (calendar (45_437 ∷ []) ∷ holiday 45_439 ∷ holiday 45_439 ∷ calendar (45_437 ∷ [])
    ∷ calendar (45_437 ∷ 45_439 ∷ []) ∷ holiday 46_021 ∷ [])
    (Ok Done ∷ Ok Done ∷ Ok Already ∷ Ok Already ∷ Err CalendarDiffers ∷ Err (CalendarMissing 2026)
    ∷ []) added
unfolding calendar holiday given added month_of month_from month_start
holidays_added =
    step given (inl (refl, refl)) (step added (inl (refl, refl)) (step added (inl (refl, refl))
    (step added (inl (refl, refl)) (step added (inl (refl, refl))
    (step added (inl (refl, refl)) refl)))))

-- 2024 is open, and payment 1 of 5.00 was made on 2024-01-10 for 2024-01-05
opened : State
opened = record with_ash {
  open_years = record { name = codes "ash"; key = 2024; content = tt }
      ∷ [];
}

with_payment : Bool → State
with_payment voided = record opened {
  payments = record {
    name = codes "ash";
    key = 1;
    content = record {
      value = record { paid = 45_299; for_day = 45_294; cents = cents 500 };
      voided = voided;
    };
  } ∷ [];
}

paid : State
paid = with_payment false

void : State
void = with_payment true

-- made on a day, for a day
pays : ℕ → ℕ → ℕ → Payment
pays paid for_day amount = record { paid = paid; for_day = for_day; cents = cents amount }

-- taken once; 6.00 differs; voided once, after which the number stays taken and the payment voided;
-- 2025 is not open
payments_taken : IsRun opened
    (Pay ash 1 (pays 45_299 45_294 500) ∷ Pay ash 1 (pays 45_299 45_294 500)
    ∷ Pay ash 1 (pays 45_299 45_294 600) ∷ VoidPay ash 2 ∷ VoidPay ash 1 ∷ VoidPay ash 1
    ∷ Pay ash 1 (pays 45_299 45_294 500) ∷ Pay ash 2 (pays 45_665 45_665 100) ∷ [])
    (Ok Done ∷ Ok Already ∷ Err PaymentDiffers ∷ Err UnknownPayment ∷ Ok Done ∷ Ok Already
    ∷ Ok Already ∷ Err (YearNotOpen 2025) ∷ []) void
unfolding ash cents begins with_ash opened with_payment pays paid void is_account_name month_of
    month_from month_start
payments_taken =
    step paid (inl (refl, refl)) (step paid (inl (refl, refl)) (step paid (inl (refl, refl))
    (step paid (inl (refl, refl)) (step void (inl (refl, refl)) (step void (inl (refl, refl))
    (step void (inl (refl, refl)) (step void (inl (refl, refl)) refl)))))))
