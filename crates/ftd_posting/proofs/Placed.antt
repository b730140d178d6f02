-- A patch that is right was put in the place of an account's rows: the tables stand for the state
-- after the change, and it is told how the obligations differ.
use Rattle.std.proofs.Common.{◌≡◌, ◌≢◌, ◌∙◌, refl, sym, ap, subst, ℕ, ◌+◌, ◌≤◌, Bool}
use Rattle.std.proofs.Common.{List, ◌++◌, map, Ok, arith}
use Rattle.std.specs.Prelude.{◌↔◌, filter}
use Rattle.std.specs.List.Sorted.{IsPermutation}
use Rattle.std.proofs.lemmas.List.Sorted.{IsPermutation-trans}
use Rattle.ftd_days.specs.Calendar.{year_start}
use Rattle.ftd_days.specs.declared.cents.Cents.{Cents}
use Rattle.ftd_rules.specs.declared.Form.{Form}
use Rattle.ftd_rules.specs.declared.Obligation.{Obligation}
use Rattle.ftd_rules.specs.declared.YearLine.{YearLine}
use Rattle.ftd_rules.specs.declared.run.PayRun.{PayRun}
use Rattle.ftd_rules.specs.declared.run.Voidable.{Voidable}
use Rattle.ftd_rules.specs.Lists.{Has}
use Rattle.ftd_rules.specs.Obligations.{AreObligations}
use Rattle.ftd_rules.specs.Years.{AreOpenYears, basis_of}
use Rattle.ftd_sql.specs.declared.TableName.TheVariants.{Metas, Accounts, ReportedQuarters}
use Rattle.ftd_sql.specs.declared.TableName.TheVariants.{CalendarYears, Holidays, Years, Runs}
use Rattle.ftd_sql.specs.declared.TableName.TheVariants.{Payments, Obligations, Forms}
use Rattle.ftd_sql.specs.declared.TableName.TheVariants.{ReportedYears, AddedHolidays}
use Rattle.ftd_sql.specs.declared.TableName.TheVariants.{CorrectedQuarters, CorrectedYears}
use Rattle.ftd_sql.specs.declared.TableName.TheVariants.{ChangedHolidays, CorrectedAccounts}
use Rattle.ftd_sql.specs.Rows.{ObligationRow, FormRow}
use Rattle.ftd_sql.specs.Standing.{Tables}
use Rattle.ftd_sql.specs.Tests.{is_year_of, is_obligation_between}
use Rattle.ftd_store.specs.Cells.{day_number}
use Rattle.ftd_store.specs.Rows.{year_row, obligation_row}
use Rattle.ftd_buckets.specs.declared.Patch.{Patch}
use Rattle.ftd_buckets.specs.Histories.{History, IsHistory}
use Rattle.ftd_buckets.specs.Patches.{IsOwed, Replaces}
use Rattle.ftd_machine.specs.State.{State, Entry, Entries, entries_of, holidays}
use Rattle.ftd_machine.specs.History.{form_of, live_sums, AreLinesOf}
use Rattle.ftd_machine.specs.Posting.{AreOnOtherSchedules, IsPosted}
use Rattle.ftd_machine.proofs.Those.{HaveSameSchedules, other_schedules}
use Rattle.ftd_machine.specs.Sound.{IsSound}
use Rattle.ftd_machine.specs.declared.replies.Reply.TheVariants.{Posted}
use Rattle.ftd_store.proofs.Sifted.{sifted}
use Rattle.ftd_entries.specs.Standing.{StandsFor, KeepsEntries, IsSettled, is_obligation_of}
use Rattle.ftd_entries.specs.Standing.{enrolled_form}
use Rattle.ftd_machine.specs.declared.replies.Difference.{Difference}
use Rattle.ftd_repairs.specs.Replaced.{patched}
use Rattle.ftd_repairs.specs.Rescheduled.{AreAfter}
use Rattle.ftd_repairs.specs.Reposted.{Repatches}
use Rattle.ftd_posting.specs.Books.{AreHolidaysIn}
use Rattle.ftd_posting.proofs.Differing.{differ_whole}
use Rattle.ftd_posting.proofs.HolidaysRead.{holidays_near}
use Rattle.ftd_posting.proofs.LinesAfter.{lines_after}
use Rattle.ftd_posting.proofs.Patching.{patched_are}
use Rattle.ftd_posting.proofs.RightByAll.{replaces_by_all}
use Rattle.ftd_posting.proofs.RowsPlaced.{stays, placed_rows, gone_are, others_placed}
use Rattle.ftd_entries.proofs.Settling.{HasRowsOf, each_name, names_apart, same_order, settled_as}

module _ (old changed new : Tables) (s : State) (runs : List (Entry (Voidable PayRun)))
    (corrected corrected_years : List (Entry Cents)) (name : List ℕ) (day since : ℕ)
    (before after : History) (lines : List YearLine) (known : List ℕ) (IsRight : Patch → Type 0)
    (difference : Difference) (stands : StandsFor old s) (sound : IsSound s)
    (repatches : Repatches name day lines IsRight difference changed new) where
  -- the state with other runs and other corrections of figures
  abbrev pub Next : State
  Next = record s { runs = runs; corrected = corrected; corrected_years = corrected_years }

  abbrev own : Entries
  own = entries_of s name

  abbrev pub own_after : Entries
  own_after = entries_of Next name

  abbrev was : IsSettled old s name
  was = stands.settled name

  abbrev form : Form
  form = form_of own.account

  abbrev patch : Patch
  patch = repatches.patch

  -- of the histories before and after the patch is right, by holidays that were read of the years
  -- from one on; and the rows that were patched are those of the state before, but for the
  -- account's lines and for what was entered
  pub record IsPlaced : Type 0 where
    pub lines_are : lines ≡ before.lines
    pub same_schedules : HaveSameSchedules lines was.lines
    pub years : AreOpenYears before.lines
    pub same_years : map basis_of before.lines ≡ map basis_of after.lines
    pub owed : (o : Obligation) → Has was.owed o ↔ IsOwed form before (holidays s) o
    pub are_lines : AreLinesOf own_after after.lines
    pub sums_are : after.sums ≡ live_sums own_after
    pub others : (other : List ℕ) → other ≢ name → entries_of Next other ≡ entries_of s other
    pub replaces : Replaces form before after known patch
    pub from : year_start since ≤ patch.from
    pub some : patch.from ≤ patch.to + 1
    pub read : (line : YearLine) → Has after.lines line → since ≤ line.year
        → AreHolidaysIn s known line.year × AreHolidaysIn s known (line.year + 1)
    pub obligations : changed Obligations ≡ old Obligations
    pub year_rows : (other : List ℕ) → other ≢ name
        → filter (is_year_of other) (changed Years) ≡ filter (is_year_of other) (old Years)
    pub entered : KeepsEntries changed Next

  module _ (p : IsPlaced) where
    is_after : IsHistory after
    is_after = subst (λ sums. IsHistory (record { lines = after.lines; sums = sums }))
        (sym p.sums_are) p.are_lines.schedules

    replaces_all : Replaces form before after (holidays s) patch
    replaces_all =
        replaces_by_all form before after known (holidays s) patch is_after
        (λ o l owed. holidays_near s sound form after.lines after.sums known since o is_after p.read
        (let low = p.from in omega arith) owed) p.replaces

    -- ---- the obligations after

    abbrev pub owed_then : List Obligation
    owed_then = patched patch.from patch.to was.owed patch.rows

    are_owed_after : AreObligations form after.lines after.sums (holidays s) owed_then
    are_owed_after =
        let r = replaces_all in
        let k = patched_are (IsOwed form before (holidays s)) (IsOwed form after (holidays s))
        patch.from patch.to was.owed patch.rows p.some was.are_owed.by_first_day p.owed
        (record { rise = r.rows.by_first_day; all = r.rows.all; elsewhere = r.elsewhere }) in
        record { by_first_day = k.0; all = k.1 }

    pub are_owed : AreObligations form after.lines (live_sums own_after) (holidays s) owed_then
    are_owed = subst (λ sums. AreObligations form after.lines sums (holidays s) owed_then)
        p.sums_are are_owed_after

    -- the rows of the patch begin on its first day or later
    pub come_later : (o : Obligation) → Has patch.rows o → patch.from ≤ o.first
    come_later o has = ((replaces_all.rows.all o).0 has).1

    pub lines_put : repatches.put.after ≡ after.lines
    lines_put =
        lines_after before after patch.years p.years is_after.years p.same_years
        replaces_all.years repatches.put.after
        (subst (λ ls. AreAfter ls patch.years repatches.put.after) p.lines_are
        repatches.put.are_after)

    -- ---- the rows

    abbrev rows_then : List ObligationRow
    rows_then = filter (stays name patch.from patch.to) (old Obligations) ++ map
        (obligation_row name) patch.rows

    obligations_are : IsPermutation (new Obligations) rows_then
    obligations_are = subst
        (λ rows. IsPermutation (new Obligations)
        (filter (stays name patch.from patch.to) rows ++ map (obligation_row name) patch.rows))
        p.obligations
        (subst (λ (os : List ObligationRow). IsPermutation os
        (filter (stays name patch.from patch.to) (changed Obligations) ++ map
        (obligation_row name) patch.rows)) (sym (repatches.put.puts.only Obligations))
        repatches.put.rows.are)

    -- so those of an account
    some_are : (test : ObligationRow → Bool) (os : List ObligationRow)
        → IsPermutation (filter test rows_then) os → IsPermutation (filter test (new Obligations))
        os
    some_are test os are = IsPermutation-trans (filter test (new Obligations))
        (filter test rows_then) os (sifted test (new Obligations) rows_then obligations_are) are

    settled_own : IsSettled new Next name
    settled_own = record {
      lines = after.lines;
      are_lines = p.are_lines;
      owed = owed_then;
      are_owed = are_owed;
      line_rows = subst (λ ls. IsPermutation (filter (is_year_of name) (new Years))
          (map (year_row name) ls)) lines_put repatches.put.puts.has;
      owed_rows =
          some_are (is_obligation_of name) (map (obligation_row name) owed_then)
          (placed_rows name patch.from patch.to (old Obligations) was.owed patch.rows p.some
          was.owed_rows);
    }

    rows_other : (other : List ℕ) → other ≢ name → HasRowsOf other old new
    rows_other other apart = record {
      years = same_order _ _ (repatches.put.puts.others other apart
          ∙ (ap (filter (is_year_of other)) (repatches.put.rows.only Years)
          ∙ p.year_rows other apart));
      obligations = some_are (is_obligation_of other) _ (same_order _ _
          (others_placed name patch.from patch.to other apart (old Obligations) patch.rows));
    }

    settled_other : (other : List ℕ) → other ≢ name → IsSettled new Next other
    settled_other other apart = settled_as old new s Next other (p.others other apart) refl
        (rows_other other apart) (stands.settled other)

    settled_each : (other : List ℕ) → IsSettled new Next other
    settled_each = each_name (IsSettled new Next) name settled_own
        (λ other is. settled_other other (λ same. names_apart name other is (sym same)))

    -- the tables stand for the state after the change
    pub placed_stands : StandsFor new Next
    placed_stands =
        let put = repatches.put.puts.only in
        let row = repatches.put.rows.only in
        let kept = p.entered in
        record {
          entries = record {
            meta = put Metas ∙ (row Metas ∙ kept.meta);
            enrolled = record {
              accounts = put Accounts ∙ (row Accounts ∙ kept.enrolled.accounts);
              forms = subst (λ (rows : List FormRow). IsPermutation rows
                  (map enrolled_form s.accounts))
                  (sym (put Forms ∙ row Forms)) kept.enrolled.forms;
              moved = put CorrectedAccounts ∙ (row CorrectedAccounts ∙ kept.enrolled.moved);
            };
            figures = record {
              reported = put ReportedQuarters ∙ (row ReportedQuarters ∙ kept.figures.reported);
              reported_years = put ReportedYears ∙
                  (row ReportedYears ∙ kept.figures.reported_years);
              corrected = put CorrectedQuarters ∙ (row CorrectedQuarters ∙ kept.figures.corrected);
              corrected_years = put CorrectedYears ∙
                  (row CorrectedYears ∙ kept.figures.corrected_years);
            };
            days = record {
              calendars = put CalendarYears ∙ (row CalendarYears ∙ kept.days.calendars);
              calendar_days = put Holidays ∙ (row Holidays ∙ kept.days.calendar_days);
              added_days = put AddedHolidays ∙ (row AddedHolidays ∙ kept.days.added_days);
              changed_days = put ChangedHolidays ∙ (row ChangedHolidays ∙ kept.days.changed_days);
            };
            paid = record {
              runs = put Runs ∙ (row Runs ∙ kept.paid.runs);
              payments = put Payments ∙ (row Payments ∙ kept.paid.payments);
            };
          };
          settled = settled_each;
        }

    -- and what is answered is how the obligations differ before and after, and which years are on
    -- another schedule
    pub placed_told : IsPosted (holidays s) own own_after day
        (Ok (Posted difference))
    placed_told =
        let compared = repatches.compared in
        let r = replaces_all in
        record {
          rows = was.owed;
          owed = (was.lines, was.are_lines, was.are_owed);
          rows_after = owed_then;
          owed_after = (after.lines, p.are_lines, are_owed);
          difference = difference;
          differ =
              differ_whole patch.from patch.to was.owed patch.rows
              compared.gone day difference
              (gone_are name patch.from patch.to (old Obligations) was.owed compared.gone
              was.owed_rows (subst (λ (rows : List ObligationRow). IsPermutation
              (filter (is_obligation_between name (day_number patch.from) (day_number patch.to))
              rows) (map (obligation_row name) compared.gone)) p.obligations
              compared.are_gone.are))
              (λ o has. (let k = (r.rows.all o).0 has in let high = k.2 in (k.1, omega arith)))
              (compared.differ r.rows.by_first_day);
          years = other_schedules lines was.lines after.lines difference.years
              p.same_schedules (subst (λ ls. AreOnOtherSchedules lines ls difference.years)
              lines_put repatches.years);
          told = refl;
        }
