-- The holidays that were read of a year are those that were added to it.
use Rattle.std.proofs.Common.{◌≡◌, ◌∙◌, sym, ap, subst, ℕ, pos, true, List, [], ◌∷◌, map}
use Rattle.std.specs.Prelude.{◌↔◌, filter}
use Rattle.ftd_days.specs.Calendar.{year_of}
use Rattle.ftd_rules.specs.Lists.{Has, KeysRise}
use Rattle.ftd_rules.proofs.Members.{has_mapped, mapped_has}
use Rattle.ftd_sql.specs.Orders.{HolidaysRise}
use Rattle.ftd_sql.specs.Rows.{HolidayRow}
use Rattle.ftd_sql.specs.Standing.{Tables}
use Rattle.ftd_sql.specs.Tests.{is_holiday_of}
use Rattle.ftd_sql.specs.declared.TableName.TheVariants.{AddedHolidays}
use Rattle.ftd_store.specs.Lists.{Lists}
use Rattle.ftd_store.specs.Rows.{holiday_row}
use Rattle.ftd_store.specs.Finds.{IsHoliday}
use Rattle.ftd_machine.specs.Agenda.{EachToLater}
use Rattle.ftd_machine.specs.Kept.{IsAdded, IsDayBefore}
use Rattle.ftd_machine.specs.Limits.{are_rising}
use Rattle.ftd_machine.specs.State.{State}
use Rattle.ftd_machine.proofs.Keeping.{same_key}
use Rattle.ftd_entries.specs.Standing.{StandsFor, added_entry}
use Rattle.ftd_entries.proofs.CalendarRows.{year_cell, itself, rising}
use Rattle.ftd_entries.proofs.Found.{day_is}
use Rattle.ftd_entries.proofs.Kept.{same_nat}
use Rattle.ftd_entries.proofs.ListedRows.{value_passes, passing_value}

module _ (year : ℕ) (t : Tables) (s : State) (stands : StandsFor t s) (added : List ℕ)
    (lists : Lists HolidaysRise (IsHoliday year)
    (filter (is_holiday_of (pos year)) (t AddedHolidays)) added) where
  added_in : (day : ℕ) → Has added day → IsAdded s year day
  added_in day has =
      let there = value_passes (holiday_row year) HolidaysRise (is_holiday_of (pos year))
      (t AddedHolidays) added lists day has in
      let from = has_mapped added_entry s.added_days (holiday_row year day)
      (subst (λ rs. Has rs (holiday_row year day)) stands.entries.days.added_days there.0) in
      let same : day ≡ from.0 = day_is day from.0 (ap (λ (r : HolidayRow). r.day) from.2) in
      let its : year ≡ year_of from.0 =
      same_nat year (year_of from.0) (ap (λ (r : HolidayRow). r.year) from.2) in
      (subst (Has s.added_days) (sym same) from.1, ap year_of same ∙ sym its)

  added_there : (day : ℕ) → IsAdded s year day → Has added day
  added_there day is =
      let row : Has (t AddedHolidays) (holiday_row year day) =
      subst (λ rs. Has rs (holiday_row year day)) (sym stands.entries.days.added_days)
      (subst (λ y. Has (map added_entry s.added_days) (holiday_row y day)) is.1
      (mapped_has added_entry s.added_days day is.0)) in
      let item = passing_value (holiday_row year) HolidaysRise (is_holiday_of (pos year))
      (t AddedHolidays) added lists (holiday_row year day) row
      (year_cell year year ∙ same_key year) in
      let same : day ≡ item.0 = day_is day item.0 (ap (λ (r : HolidayRow). r.day) item.2) in
      subst (Has added) (sym same) item.1

  pub added_are : (day : ℕ) → Has added day ↔ IsAdded s year day
  added_are day = (added_in day, added_there day)

-- rising days come each before all later ones
pub days_rise : (days : List ℕ) → are_rising days ≡ true → EachToLater IsDayBefore days
days_rise days e = each days (rising days e)
  where
    each : (ds : List ℕ) → KeysRise itself ds → EachToLater IsDayBefore ds
    each [] rise = tt
    each (d ∷ ds) rise = (rise.0, each ds rise.1)
