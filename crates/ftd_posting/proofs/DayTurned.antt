-- What is entered of a day: the tables stand for the state with it.
use Rattle.std.proofs.Common.{◌≡◌, ◌∙◌, ℕ, List, map, refl, sym, subst, arith}
use Rattle.std.specs.Prelude.{filter}
use Rattle.std.specs.List.Sorted.{IsPermutation}
use Rattle.ftd_days.proofs.Months.{year_later}
use Rattle.ftd_rules.specs.declared.Obligation.{Obligation}
use Rattle.ftd_rules.specs.Due.{IsDue}
use Rattle.ftd_rules.specs.Laws.{EqualHolidays}
use Rattle.ftd_rules.specs.Obligations.{IsObligation}
use Rattle.ftd_rules.proofs.DueDates.{due_one}
use Rattle.ftd_rules.proofs.Near.{due_near}
use Rattle.ftd_rules.proofs.Resting.{due_from, due_same, from_later}
use Rattle.ftd_rules.proofs.Stated.{due_by}
use Rattle.ftd_sql.specs.declared.TableName.{TableName}
use Rattle.ftd_sql.specs.declared.TableName.TheVariants.{Metas, Accounts, ReportedQuarters}
use Rattle.ftd_sql.specs.declared.TableName.TheVariants.{CalendarYears, Holidays, Years, Runs}
use Rattle.ftd_sql.specs.declared.TableName.TheVariants.{Payments, Obligations, Forms}
use Rattle.ftd_sql.specs.declared.TableName.TheVariants.{ReportedYears, AddedHolidays}
use Rattle.ftd_sql.specs.declared.TableName.TheVariants.{CorrectedQuarters, CorrectedYears}
use Rattle.ftd_sql.specs.declared.TableName.TheVariants.{ChangedHolidays, CorrectedAccounts}
use Rattle.ftd_sql.specs.Rows.{ObligationRow, YearRow, FormRow}
use Rattle.ftd_sql.specs.Standing.{Tables, with_rows}
use Rattle.ftd_sql.specs.Orders.{AccountsRise}
use Rattle.ftd_sql.specs.Tests.{is_due_over, is_year_of}
use Rattle.ftd_store.specs.declared.obligation_cells.AccountObligation.{AccountObligation}
use Rattle.ftd_store.specs.Cells.{day_number}
use Rattle.ftd_store.specs.Lists.{Lists, Pairs}
use Rattle.ftd_store.specs.Rows.{year_row}
use Rattle.ftd_store.specs.Finds.{IsAccountObligation}
use Rattle.ftd_machine.specs.State.{State, DayChange, entries_of, holidays}
use Rattle.ftd_machine.specs.History.{form_of, live_sums}
use Rattle.ftd_machine.specs.Sound.{IsSound}
use Rattle.ftd_machine.proofs.Few.{few_in_force}
use Rattle.ftd_entries.specs.Standing.{StandsFor, KeepsDays, IsSettled, enrolled_form}
use Rattle.ftd_posting.specs.Moved.{EntersDay, IsAfter, day_of, with_entered}
use Rattle.ftd_posting.specs.declared.moving.DayEntry.{DayEntry}
use Rattle.ftd_posting.specs.declared.moving.DayEntry.TheVariants.{Added, Changed}
use Rattle.ftd_posting.proofs.DueAgain.{due_again, again, is_due_again, HasDays, days_of_owed}
use Rattle.ftd_posting.proofs.DueAgain.{Turns, due_as_turned, rows_again}
use Rattle.ftd_posting.proofs.MovedOwed.{IsOver, owed_after}

-- ---- the tables that are written

-- what is entered of a day is a row of one of two tables
entered_only : (e : DayEntry) (t : Tables) (n : TableName)
    → with_entered e t n ≡ with_rows AddedHolidays (with_entered e t AddedHolidays)
    (with_rows ChangedHolidays (with_entered e t ChangedHolidays) t) n
entered_only (Added day) t AddedHolidays = refl
entered_only (Added day) t ChangedHolidays = refl
entered_only (Added day) t n = refl
entered_only (Changed change) t AddedHolidays = refl
entered_only (Changed change) t ChangedHolidays = refl
entered_only (Changed change) t n = refl

only_on : (rows : List ObligationRow) (old new : Tables) → ((n : TableName) → old n ≡ new n)
    → (n : TableName) → with_rows Obligations rows old n ≡ with_rows Obligations rows new n
only_on rows old new same Obligations = refl
only_on rows old new same n = same n

-- ---- what is settled

module _ (e : DayEntry) (t u : Tables) (s : State) (added : List ℕ) (changes : List DayChange)
    (stands : StandsFor t s) (sound : IsSound s) (enters : EntersDay e t u) where
  -- the state with other days
  abbrev pub Next : State
  Next = record s { added_days = added; changed_days = changes }

  abbrev day : ℕ
  day = day_of e

  abbrev after : List ℕ
  after = holidays Next

  abbrev read : List ℕ
  read = enters.holidays

  at : (n : TableName) → u n ≡ with_rows Obligations (u Obligations)
      (with_rows AddedHolidays (with_entered e t AddedHolidays)
      (with_rows ChangedHolidays (with_entered e t ChangedHolidays) t)) n
  at n = enters.moved.moves.only n ∙ only_on (u Obligations) (with_entered e t)
      (with_rows AddedHolidays (with_entered e t AddedHolidays)
      (with_rows ChangedHolidays (with_entered e t ChangedHolidays) t)) (entered_only e t) n

  module _ (next_sound : IsSound Next) (keeps : KeepsDays (with_entered e t) Next)
      (turned : Turns (holidays s) day after) where
    module _ (name : List ℕ) where
      abbrev was : IsSettled t s name
      was = stands.settled name

      abbrev IsOwed : Obligation → Type 0
      IsOwed o = IsObligation (form_of (entries_of s name).account) was.lines
          (live_sums (entries_of s name)) (holidays s) o

      owed_days : (o : Obligation) → IsOwed o → HasDays o
      owed_days o is = days_of_owed (form_of (entries_of s name).account) was.lines
          (live_sums (entries_of s name)) (holidays s) o was.are_lines.schedules is

      -- what is due by the holidays that were read is due by all
      agree : (o : Obligation) → IsOwed o → IsOver day o → (due : ℕ)
          → IsDue read o.rule o.last due → due ≡ due_again after o
      agree o is over due dated =
          let days = owed_days o is in
          let some = days.some in let known = days.known in let one_year = days.one_year in
          let early = days.to_2098 in
          let over0 = over.0 in let over1 = over.1 in
          let now : ℕ = due_again after o in
          let old = due_near (holidays s) o.rule o.last o.due (few_in_force s sound.few)
          (omega arith) (due_by (holidays s) o.rule o.last o.due is.due) in
          let old1 = old.1.0 in let old2 = old.1.1 in
          let new = due_near after o.rule o.last now (few_in_force Next next_sound.few)
          (omega arith) (is_due_again after o) in
          let new1 = new.1.0 in let new2 = new.1.1 in
          let begins = year_later o.first day (omega arith) (omega arith) in
          let ends = year_later day o.due over1 old2 in
          let from = from_later o.rule o.last known in
          let same : EqualHolidays (due_from o.rule o.last) now after read =
          λ d low high. (
          let first = year_later o.last d (omega arith) (omega arith) in
          let last = year_later d now high new2 in
          enters.known Next keeps next_sound d (omega arith) (omega arith)) in
          due_one read o.rule o.last due now (due_by read o.rule o.last due dated)
          (due_same after read o.rule o.last now now same (omega arith) (is_due_again after o))

      abbrev given : List AccountObligation
      given = enters.moved.obligations.items

      listed : Lists AccountsRise IsAccountObligation
          (filter (is_due_over (day_number day)) (t Obligations)) given
      listed = subst
          (λ (rows : List ObligationRow). Lists AccountsRise IsAccountObligation
          (filter (is_due_over (day_number day)) rows) given)
          (entered_only e t Obligations) enters.moved.listed

      moved_rows : Pairs (IsAfter read given) (t Obligations) (u Obligations)
      moved_rows = subst
          (λ (rows : List ObligationRow). Pairs (IsAfter read given) rows (u Obligations))
          (entered_only e t Obligations) enters.moved.moves.rows

      still_settled : IsSettled u Next name
      still_settled = record {
        lines = was.lines;
        are_lines = was.are_lines;
        owed = map (again after) was.owed;
        are_owed = rows_again (form_of (entries_of s name).account) was.lines
            (live_sums (entries_of s name)) (holidays s) after was.owed was.are_owed;
        line_rows = subst (λ (rows : List YearRow). IsPermutation (filter (is_year_of name) rows)
            (map (year_row name) was.lines)) (sym (at Years)) was.line_rows;
        owed_rows =
            owed_after day read after given (t Obligations) (u Obligations) listed moved_rows name
            was.owed was.are_owed.by_first_day
            was.owed_rows
            (λ o has over due dated. agree o ((was.are_owed.all o).0 has) over due dated)
            (λ o has out. let is = (was.are_owed.all o).0 has in
            due_as_turned (holidays s) after day o turned (owed_days o is) is.due out);
      }

    -- the tables stand for the state with the days
    pub entered_stands : StandsFor u Next
    entered_stands = record {
      entries = record {
        meta = at Metas ∙ stands.entries.meta;
        enrolled = record {
          accounts = at Accounts ∙ stands.entries.enrolled.accounts;
          forms = subst (λ (rows : List FormRow). IsPermutation rows (map enrolled_form s.accounts))
              (sym (at Forms)) stands.entries.enrolled.forms;
          moved = at CorrectedAccounts ∙ stands.entries.enrolled.moved;
        };
        figures = record {
          reported = at ReportedQuarters ∙ stands.entries.figures.reported;
          reported_years = at ReportedYears ∙ stands.entries.figures.reported_years;
          corrected = at CorrectedQuarters ∙ stands.entries.figures.corrected;
          corrected_years = at CorrectedYears ∙ stands.entries.figures.corrected_years;
        };
        days = record {
          calendars = at CalendarYears ∙ stands.entries.days.calendars;
          calendar_days = at Holidays ∙ stands.entries.days.calendar_days;
          added_days = at AddedHolidays ∙ keeps.added_days;
          changed_days = at ChangedHolidays ∙ keeps.changed_days;
        };
        paid = record {
          runs = at Runs ∙ stands.entries.paid.runs;
          payments = at Payments ∙ stands.entries.paid.payments;
        };
      };
      settled = still_settled;
    }
