-- Each field of a list has its word, so that no column of a page stands without a head.
use Rattle.std.proofs.Common.{◌≡◌, ℕ, List, length, refl}
use Rattle.ftd_rules.specs.declared.Obligation.{Obligation}
use Rattle.ftd_machine.specs.declared.facts.DaySchedule.{DaySchedule}
use Rattle.ftd_answers.specs.ExplanationForms.{obligation_fields, status_fields}
use Rattle.ftd_answers.specs.Fields.{told_by}
use Rattle.ftd_pages.specs.Days.{day_shape}
use Rattle.ftd_pages.specs.Dues.{agenda_shape, due_shape}
use Rattle.ftd_pages.specs.Explanations.{counted_shape, obligation_shape, payday_shape}
use Rattle.ftd_pages.specs.Kept.{account_shape, holiday_shape, payment_shape, run_shape}
use Rattle.ftd_pages.specs.Kept.{total_shape, year_shape}
use Rattle.ftd_pages.specs.Rows.{Shape}
use Rattle.ftd_pages.specs.Schedules.{schedule_shape}
use Rattle.ftd_pages.specs.Unapplied.{unapplied_shape}

abbrev pub HasWords : {T : Type 0} → Shape T → Type 0
HasWords shape = length shape.words ≡ length shape.fields

-- what is due
pub agenda_words : HasWords agenda_shape
agenda_words = refl

pub due_words : (account : List ℕ) → HasWords (due_shape account)
due_words account = refl

pub day_words : (account : List ℕ) → HasWords (day_shape account)
day_words account = refl

-- what is kept
pub account_words : HasWords account_shape
account_words = refl

pub year_words : (account : List ℕ) → HasWords (year_shape account)
year_words account = refl

pub total_words : (account : List ℕ) → HasWords (total_shape account)
total_words account = refl

pub holiday_words : HasWords holiday_shape
holiday_words = refl

pub run_words : (account : List ℕ) → HasWords (run_shape account)
run_words account = refl

pub payment_words : (account : List ℕ) → HasWords (payment_shape account)
payment_words account = refl

-- money that counts for nothing
pub unapplied_words : HasWords unapplied_shape
unapplied_words = refl

-- why an obligation is so, and the deposit schedule of a day
pub obligation_words : HasWords obligation_shape
obligation_words = refl

pub payday_words : HasWords payday_shape
payday_words = refl

pub counted_words : HasWords counted_shape
counted_words = refl

pub schedule_words : HasWords schedule_shape
schedule_words = refl

-- ---- what is one object in JSON and not a list is a row with the same fields here

pub obligation_told : (x : Obligation) → told_by obligation_shape.fields x ≡ obligation_fields x
obligation_told x = refl

pub schedule_told : (x : DaySchedule)
    → told_by schedule_shape.fields x ≡ status_fields x.day x.kind x.reason
schedule_told x = refl
