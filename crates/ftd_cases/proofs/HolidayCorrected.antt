-- A worked case: a holiday is taken back. `ash`, on Form 941 since 1 January 2024, came in as
-- semiweekly, and posted 882.50 of Friday 5 January. Monday 8 January 2024 was given as a holiday
-- by mistake. A day is the number of days after 1 January 1900, an amount its cents.
use Rattle.std.proofs.Common.{inl, refl, ℕ, Bool, true, false, List, [], ◌∷◌, Ok, Err}
use Rattle.std.specs.Prelude.{codes}
use Rattle.ftd_days.specs.Calendar.{month_of, month_from, month_start}
use Rattle.ftd_rules.specs.declared.Form.TheVariants.{F941}
use Rattle.ftd_machine.specs.State.{State, DayChange, nothing}
use Rattle.ftd_machine.specs.Runs.{IsRun}
use Rattle.ftd_machine.specs.Step.{Step}
use Rattle.ftd_machine.specs.Told.{kept_answer}
use Rattle.ftd_machine.specs.declared.kept.KeptHoliday.{KeptHoliday}
use Rattle.ftd_machine.specs.declared.kept.KeptRows.TheVariants as rows
use Rattle.ftd_machine.specs.declared.replies.Reply.TheVariants.{Done, Already}
use Rattle.ftd_machine.specs.declared.replies.Refusal.TheVariants.{CorrectionDiffers, NumberSkipped}
use Rattle.ftd_machine.specs.declared.replies.Refusal.TheVariants.{NoHoliday, CalendarMissing}
use Rattle.ftd_machine.specs.declared.requests.Correction.TheVariants as correction
use Rattle.ftd_machine.specs.declared.requests.KeptList.TheVariants as list
use Rattle.ftd_machine.specs.declared.requests.Question.TheVariants as question
use Rattle.ftd_machine.specs.declared.requests.Request.{Request}
use Rattle.ftd_machine.specs.declared.requests.Request.TheVariants as request
use Rattle.ftd_cases.proofs.January.{run}

-- ---- what is kept

abbrev pub ash : List ℕ
ash = codes "ash"

-- with these changes of days
abbrev pub kept : List DayChange → State
kept changes = record nothing {
  accounts = record {
    name = ash;
    account = record { start = 45_290; carried = true; form = F941 };
  } ∷ [];
  calendars = record { year = 2024; days = 45_290 ∷ 45_297 ∷ 45_304 ∷ [] }
      ∷ record { year = 2025; days = [] } ∷ [];
  open_years = record { name = ash; key = 2024; content = tt } ∷ [];
  runs = record { name = ash; key = 1; content = record { value = run; voided = false } } ∷ [];
  changed_days = changes;
}

abbrev pub before : State
before = kept []

-- 8 January is taken back
abbrev pub after : State
after = kept (record { day = 45_297; is_holiday = false } ∷ [])

-- and made a holiday again
abbrev again : State
again =
    kept (record { day = 45_297; is_holiday = false } ∷ record { day = 45_297; is_holiday = true }
    ∷ [])

-- ---- the requests

abbrev change : ℕ → ℕ → Bool → Request
change number day is_holiday =
    request.Correct number (correction.Holiday day is_holiday)

abbrev holidays_kept : Request
holidays_kept = request.Question (question.Kept (list.Holidays 2024))

-- a day of the calendar as it was given
abbrev given : ℕ → Bool → KeptHoliday
given day is_holiday = record { day = day; added = false; is_holiday = is_holiday }

-- the days of 2024 are listed as they were given, with whether each is a holiday now
days_listed : Step after holidays_kept
    (kept_answer
    (rows.Holidays 2024 (given 45_290 true ∷ given 45_297 false ∷ given 45_304 true ∷ []))) after
days_listed = (
  refl,
  record {
    given = 45_290 ∷ 45_297 ∷ 45_304 ∷ [];
    is_given = refl;
    added = [];
    rising = tt;
    all = λ day. ((λ has. absurd has), (λ added. added.0));
    told = refl;
  },
)

-- taken back once, and listed so; made a holiday again with the same number differs; numbers follow
-- one another; the day is made a holiday again; Tuesday 9 January was never given, and 2026 neither
holiday_corrected : IsRun before
    (change 1 45_297 false ∷ change 1 45_297 false ∷ holidays_kept ∷ change 1 45_297 true
    ∷ change 3 45_297 true ∷ change 2 45_297 true ∷ change 1 45_298 false
    ∷ change 1 46_021 false ∷ [])
    (Ok Done ∷ Ok Already
    ∷ kept_answer
    (rows.Holidays 2024 (given 45_290 true ∷ given 45_297 false ∷ given 45_304 true ∷ []))
    ∷ Err CorrectionDiffers ∷ Err (NumberSkipped 1) ∷ Ok Done ∷ Err NoHoliday
    ∷ Err (CalendarMissing 2026) ∷ []) again
unfolding month_of month_from month_start
holiday_corrected = (
  after,
  inl (refl, refl),
  (
    after,
    inl (refl, refl),
    (
      after,
      inl days_listed,
      (
        after,
        inl (refl, refl),
        (
          after,
          inl (refl, refl),
          (again, inl (refl, refl), (again, inl (refl, refl), (again, inl (refl, refl), refl))),
        ),
      ),
    ),
  ),
)
