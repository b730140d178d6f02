-- Sound states that have the same entries tell the same to each question.
use Rattle.std.proofs.Common.{◌≡◌, ◌∙◌, sym, ap, subst, ℕ, Bool, true, false, List, ◌++◌, map}
use Rattle.ftd_days.specs.Business.{is_holiday}
use Rattle.ftd_days.specs.Calendar.{quarter_of}
use Rattle.ftd_machine.specs.Agenda.{IsAgenda, IsAgendaRow, IsDueBetween, IsLeftBy}
use Rattle.ftd_machine.specs.Agenda.{first_day_of}
use Rattle.ftd_machine.specs.Asking.{IsDueList, IsDueRow, IsScheduleB, IsStatus}
use Rattle.ftd_machine.specs.Checks.{Answer}
use Rattle.ftd_machine.specs.Explaining.{IsExplanation}
use Rattle.ftd_machine.specs.History.{AreOwed}
use Rattle.ftd_machine.specs.Journal.{SameEntries}
use Rattle.ftd_machine.specs.Kept.{AreAccounts, AreHolidays, ArePayments, AreRuns, AreTotals, AreYears}
use Rattle.ftd_machine.specs.Kept.{TellsKept, kept_days, kept_holiday}
use Rattle.ftd_machine.specs.Posting.{IsPosted}
use Rattle.ftd_machine.specs.Questions.{Tells}
use Rattle.ftd_machine.specs.Sound.{IsSound}
use Rattle.ftd_machine.specs.State.{State, Entries, account_in_force, entries_of, holidays}
use Rattle.ftd_machine.specs.State.{latest}
use Rattle.ftd_machine.specs.Told.{agenda_answer, kept_answer, owed_answer}
use Rattle.ftd_machine.specs.Unapplied.{IsUnapplied, IsUnappliedOf, IsUnappliedRow}
use Rattle.ftd_machine.specs.declared.kept.KeptRows.TheVariants as rows
use Rattle.ftd_machine.specs.declared.lists.AgendaRow.{AgendaRow}
use Rattle.ftd_machine.specs.declared.lists.UnappliedRow.{UnappliedRow}
use Rattle.ftd_machine.specs.declared.requests.KeptList.{KeptList}
use Rattle.ftd_machine.specs.declared.requests.KeptList.TheVariants.{Accounts, Years, Reported}
use Rattle.ftd_machine.specs.declared.requests.KeptList.TheVariants.{Holidays, Runs, Payments}
use Rattle.ftd_machine.specs.declared.requests.Question.{Question}
use Rattle.ftd_machine.specs.declared.requests.Question.TheVariants.{Status, Explain, DueList}
use Rattle.ftd_machine.specs.declared.requests.Question.TheVariants.{ScheduleB, Agenda, Owed, Kept}
use Rattle.ftd_machine.specs.declared.requests.Question.TheVariants.{Unapplied}
use Rattle.ftd_machine.proofs.Reordered.{AreReordered, owed_to, with_lists}
use Rattle.ftd_machine.proofs.ReorderedTold.{due_list_to, due_row_to, explanation_to, payments_to}
use Rattle.ftd_machine.proofs.ReorderedTold.{posted_to, runs_to, schedule_to, status_to, totals_to}
use Rattle.ftd_machine.proofs.ReorderedTold.{unapplied_to, years_to}
use Rattle.ftd_machine.proofs.SameDays.{pay_by_to}
use Rattle.ftd_machine.proofs.SameMembers.{added_day, entries_moved, same_back, same_holidays}
use Rattle.ftd_machine.proofs.SameMembers.{years_same}

module _ (s t : State) (s_sound : IsSound s) (t_sound : IsSound t) (same : SameEntries s t) where
  -- ---- the entries of an account

  -- they stand in another order
  pub reordered : (name : List ℕ) → AreReordered (entries_of s name) (entries_of t name)
  reordered name =
      let its = same.accounts name in
      record {
        reported = record {
          moved = entries_moved name s.reported t.reported s_sound.reported t_sound.reported
              its.reported;
          kept = its.reported;
        };
        reported_years = record {
          moved = entries_moved name s.reported_years t.reported_years s_sound.reported_years
              t_sound.reported_years its.reported_years;
          kept = its.reported_years;
        };
        runs = record {
          moved = entries_moved name s.runs t.runs s_sound.runs t_sound.runs its.runs;
          kept = its.runs;
        };
        payments = record {
          moved = entries_moved name s.payments t.payments s_sound.payments t_sound.payments
              its.payments;
          kept = its.payments;
        };
        corrected = its.corrected;
        corrected_years = its.corrected_years;
      }

  -- and all else of it is the same
  reordered_is : (name : List ℕ)
      → with_lists (entries_of s name) (entries_of t name) ≡ entries_of t name
  reordered_is name =
      let enrolled = sym ((same.accounts name).enrolled) in
      let moves = sym ((same.accounts name).moves) in
      let years = sym (years_same s t s_sound t_sound same name) in
      λ i. record (entries_of t name) {
        enrolled = enrolled i;
        moves = moves i;
        account = account_in_force (enrolled i) (moves i);
        open_years = years i;
      }

  -- so what is so of its entries in another order is so of the account
  pub moved_to : (P : Entries → Type 0) (name : List ℕ)
      → P (with_lists (entries_of s name) (entries_of t name)) → P (entries_of t name)
  moved_to P name x = subst P (reordered_is name) x

  -- the account in force is the same
  pub account_same : (name : List ℕ) → (entries_of t name).account ≡ (entries_of s name).account
  account_same name = ap (λ (own : Entries). own.account) (sym (reordered_is name))

  -- the same days are holidays
  days : (day : ℕ) → is_holiday (holidays t) day ≡ is_holiday (holidays s) day
  days = same_holidays s t s_sound t_sound same

  -- ---- rows over all accounts

  -- a row of the agenda is one
  agenda_row_to : (as_of : ℕ) (x : AgendaRow) → IsAgendaRow s as_of x → IsAgendaRow t as_of x
  agenda_row_to as_of x row =
      let own = entries_of s x.account in
      let other = entries_of t x.account in
      record {
        account = row.account;
        enrolled = account_same x.account ∙ row.enrolled;
        form_is = row.form_is;
        owed = row.owed;
        are_owed = moved_to (λ e. AreOwed (holidays t) e row.owed) x.account
            (owed_to (holidays s) (holidays t) own other days (reordered x.account) row.owed
            row.are_owed);
        is_row = moved_to (λ e. IsDueRow (holidays t) e row.owed (quarter_of (first_day_of x))
            as_of x.row) x.account
            (due_row_to (holidays s) (holidays t) days own other (reordered x.account) row.owed
            (quarter_of (first_day_of x)) as_of x.row row.is_row);
        pay_by = pay_by_to (holidays s) (holidays t) days x.form as_of x.row x.row.verdict x.pay_by
            row.pay_by;
      }

  -- a row of money that counts for nothing is one
  unapplied_row_to : (x : UnappliedRow) → IsUnappliedRow s x → IsUnappliedRow t x
  unapplied_row_to x row =
      let own = entries_of s x.account in
      let other = entries_of t x.account in
      record {
        account = row.account;
        enrolled = account_same x.account ∙ row.enrolled;
        owed = row.owed;
        are_owed = moved_to (λ e. AreOwed (holidays t) e row.owed) x.account
            (owed_to (holidays s) (holidays t) own other days (reordered x.account) row.owed
            row.are_owed);
        is_row = moved_to (λ e. IsUnappliedOf e row.owed x.payment x) x.account
            (unapplied_to own other (reordered x.account) row.owed x.payment x row.is_row);
      }

-- ---- what is told

module _ (s t : State) (s_sound : IsSound s) (t_sound : IsSound t) (same : SameEntries s t)
    (answer : Answer) where
  -- the other way round
  back : SameEntries t s
  back = same_back s t same

  -- the same days are holidays
  days_same : (day : ℕ) → is_holiday (holidays t) day ≡ is_holiday (holidays s) day
  days_same = same_holidays s t s_sound t_sound same

  -- the entries of each account stand in another order
  order : (name : List ℕ) → AreReordered (entries_of s name) (entries_of t name)
  order = reordered s t s_sound t_sound same

  -- and what is so of them in that order is so of the account
  is_so : (P : Entries → Type 0) (name : List ℕ)
      → P (with_lists (entries_of s name) (entries_of t name)) → P (entries_of t name)
  is_so = moved_to s t s_sound t_sound same

  -- what is due is told the same, and what of it is not paid
  agenda_to : (IsAsked : AgendaRow → Type 0) (as_of : ℕ) (as_answer : List AgendaRow → Answer)
      → IsAgenda s IsAsked as_of as_answer answer → IsAgenda t IsAsked as_of as_answer answer
  agenda_to IsAsked as_of as_answer x = record {
    listed = x.listed;
    in_order = x.in_order;
    all = λ row. (
      (λ has. (let is = (x.all row).0 has in
          (agenda_row_to s t s_sound t_sound same as_of row is.0, is.1))),
      (λ is. (x.all row).1 (agenda_row_to t s t_sound s_sound back as_of row is.0, is.1)),
    );
    told = x.told;
  }

  -- money that counts for nothing is told the same
  unapplied_told_to : (until : ℕ) → IsUnapplied s until answer → IsUnapplied t until answer
  unapplied_told_to until x = record {
    listed = x.listed;
    in_order = x.in_order;
    all = λ row. (
      (λ has. (let is = (x.all row).0 has in
          (unapplied_row_to s t s_sound t_sound same row is.0, is.1))),
      (λ is. (x.all row).1 (unapplied_row_to t s t_sound s_sound back row is.0, is.1)),
    );
    told = x.told;
  }

  -- the accounts are told the same
  accounts_to : AreAccounts s answer → AreAccounts t answer
  accounts_to x = record {
    listed = x.listed;
    by_name = x.by_name;
    all = λ row. (
      (λ has. account_same s t s_sound t_sound same row.name ∙ (x.all row).0 has),
      (λ is. (x.all row).1 (account_same t s t_sound s_sound back row.name ∙ is)),
    );
    told = x.told;
  }

  -- the holidays of a year are told the same
  holidays_to : (year : ℕ) → AreHolidays s year answer → AreHolidays t year answer
  holidays_to year x = record {
    given = x.given;
    is_given = same.calendars year ∙ x.is_given;
    added = x.added;
    rising = x.rising;
    all = λ day. (
      (λ has. (let is = (x.all day).0 has in (added_day s t s_sound same day is.0, is.1))),
      (λ is. (x.all day).1 (added_day t s t_sound back day is.0, is.1)),
    );
    told = x.told ∙ ap (λ days. kept_answer (rows.Holidays year days)) kept;
  }
    where
      -- a day is shown the same
      shown : (added : Bool) (day : ℕ) → kept_holiday s added day ≡ kept_holiday t added day
      shown added day = λ i. record {
        day = day;
        added = added;
        is_holiday = latest true (sym (same.changed_days day) i);
      }

      -- so the days of the year are
      kept : kept_days s x.given x.added ≡ kept_days t x.given x.added
      kept = λ i. map (λ day. shown false day i) x.given ++ map (λ day. shown true day i) x.added

  -- what is kept is told the same
  kept_to : (kept : KeptList) → TellsKept s kept answer → TellsKept t kept answer
  kept_to Accounts x = accounts_to x
  kept_to (Years name) x =
      is_so (λ own. AreYears own name answer) name
      (years_to (entries_of s name) (entries_of t name) (order name) name answer x)
  kept_to (Reported name) x =
      is_so (λ own. AreTotals own name answer) name
      (totals_to (entries_of s name) (entries_of t name) (order name) name answer x)
  kept_to (Holidays year) x = holidays_to year x
  kept_to (Runs name quarter) x =
      is_so (λ own. AreRuns own name quarter answer) name
      (runs_to (entries_of s name) (entries_of t name) (order name) name quarter answer x)
  kept_to (Payments name quarter) x =
      is_so (λ own. ArePayments (holidays t) own name quarter answer) name
      (payments_to (entries_of s name) (entries_of t name) (order name) name (holidays s)
      (holidays t) days_same quarter answer x)

  -- each question is told the same
  pub tells_to : (question : Question) → Tells s question answer → Tells t question answer
  tells_to (Status name day) x =
      is_so (λ own. IsStatus own day answer) name
      (status_to (entries_of s name) (entries_of t name) (order name) day answer x)
  tells_to (Explain name day) x =
      is_so (λ own. IsExplanation (holidays t) own name day answer) name
      (explanation_to (entries_of s name) (entries_of t name) (order name) name (holidays s)
      (holidays t) days_same day answer x)
  tells_to (DueList name quarter as_of) x =
      is_so (λ own. IsDueList (holidays t) own name quarter as_of answer) name
      (due_list_to (entries_of s name) (entries_of t name) (order name) name (holidays s)
      (holidays t) days_same quarter as_of answer x)
  tells_to (ScheduleB name quarter) x =
      is_so (λ own. IsScheduleB own name quarter answer) name
      (schedule_to (entries_of s name) (entries_of t name) (order name) name quarter answer x)
  tells_to (Agenda from to as_of) x =
      agenda_to (IsDueBetween from to) as_of (agenda_answer from to as_of) x
  tells_to (Owed until as_of) x = agenda_to (IsLeftBy until) as_of (owed_answer until as_of) x
  tells_to (Unapplied until) x = unapplied_told_to until x
  tells_to (Kept kept) x = kept_to kept x

-- and so is how obligations differ, where they are the same afterwards
pub posted_as : (s t m n : State) → IsSound s → IsSound t → SameEntries s t → IsSound m → IsSound n
    → SameEntries m n → (name : List ℕ) (payday : ℕ) (answer : Answer)
    → IsPosted (holidays s) (entries_of s name) (entries_of m name) payday answer
    → IsPosted (holidays t) (entries_of t name) (entries_of n name) payday answer
posted_as s t m n s_sound t_sound same m_sound n_sound same_after name payday answer x =
    moved_to m n m_sound n_sound same_after
    (λ then. IsPosted (holidays t) (entries_of t name) then payday answer) name
    (moved_to s t s_sound t_sound same
    (λ own. IsPosted (holidays t) own
    (with_lists (entries_of m name) (entries_of n name)) payday answer) name
    (posted_to (holidays s) (holidays t) (entries_of s name) (entries_of t name)
    (entries_of m name) (entries_of n name) payday answer
    (same_holidays s t s_sound t_sound same) (reordered s t s_sound t_sound same name)
    (reordered m n m_sound n_sound same_after name) x))
