-- The lines of a calendar, and the dates of its events.
use Rattle.std.proofs.Common.{◌≡◌, ◌∙◌, refl, sym, ap, subst, ℕ, ◌≤◌, Bool, true, false, inl, inr}
use Rattle.std.proofs.Common.{List, [], ◌∷◌, ◌++◌, length, map, arith}
use Rattle.std.specs.Prelude.{All, codes}
use Rattle.std.specs.List.{filter_map, flat_map, list_any}
use Rattle.std.proofs.lemmas.List.Concat.{flat_map-append}
use Rattle.std.proofs.lemmas.List.Elements.{All-nil, All-cons, All-append, All-weaker}
use Rattle.std.proofs.lemmas.List.Elements.{filter_map-append}
use Rattle.ftd_days.specs.Calendar.{last_day}
use Rattle.ftd_machine.specs.Agenda.{depends_on_total, due_date_of}
use Rattle.ftd_machine.specs.declared.lists.AgendaRow.{AgendaRow}
use Rattle.ftd_answers.specs.Calendars.{agenda_calendar, calendar_head, calendar_end, event_text}
use Rattle.ftd_read_back.specs.Dates.{Date, date_of, start_read, start_dates}
use Rattle.ftd_read_back.specs.Lines.{is_break, AreLines}
use Rattle.ftd_read_back.specs.Rows.{AreAgendaRowsInRange}
use Rattle.ftd_read_back.proofs.Dates.{date_reread}
use Rattle.ftd_read_back.proofs.Events.{Line, last_lines, row_lines, row_text, row_fits, plain_fits}
use Rattle.ftd_read_back.proofs.Lines.{ended, same_lines}

abbrev pub all_rows : ℕ → List AgendaRow → List (List ℕ)
all_rows as_of rows = flat_map (row_lines as_of) rows

abbrev pub calendar_lines : ℕ → List AgendaRow → List (List ℕ)
calendar_lines as_of rows =
    codes "BEGIN:VCALENDAR" ∷ codes "VERSION:2.0"
    ∷ codes "PRODID:-//ftd//Federal tax deposits//EN"
    ∷ (all_rows as_of rows ++ codes "END:VCALENDAR" ∷ [])

-- ---- they are its text

rows_text : (as_of : ℕ) (rows : List AgendaRow)
    → flat_map ended (all_rows as_of rows) ≡ flat_map (event_text as_of) rows
rows_text as_of [] = refl
rows_text as_of (x ∷ rows) =
    flat_map-append ended (row_lines as_of x) (all_rows as_of rows)
    ∙ ap (λ (text : List ℕ). text ++ flat_map ended (all_rows as_of rows)) (row_text as_of x)
    ∙ ap (λ (text : List ℕ). event_text as_of x ++ text) (rows_text as_of rows)

calendar_text : (as_of : ℕ) (rows : List AgendaRow)
    → flat_map ended (calendar_lines as_of rows) ≡ agenda_calendar as_of rows
unfolding agenda_calendar
calendar_text as_of rows =
    ap (λ (text : List ℕ). calendar_head ++ text)
    (flat_map-append ended (all_rows as_of rows) (codes "END:VCALENDAR" ∷ [])
    ∙ ap (λ (text : List ℕ). text ++ calendar_end) (rows_text as_of rows))

-- ---- each is short

rows_fit : (as_of : ℕ) (rows : List AgendaRow) → AreAgendaRowsInRange rows
    → All Line (all_rows as_of rows)
rows_fit as_of [] are = All-nil Line
rows_fit as_of (x ∷ rows) are =
    All-append Line (row_lines as_of x) (all_rows as_of rows) (row_fits as_of x (are x (inl refl)))
    (rows_fit as_of rows (λ y has. are y (inr has)))

calendar_fits : (as_of : ℕ) (rows : List AgendaRow) → AreAgendaRowsInRange rows
    → All Line (calendar_lines as_of rows)
calendar_fits as_of rows are =
    let end : All Line (codes "END:VCALENDAR" ∷ []) = All-cons Line (codes "END:VCALENDAR") []
    (plain_fits (codes "END:VCALENDAR") refl (omega arith)) (All-nil Line) in
    let body : List (List ℕ) = all_rows as_of rows ++ codes "END:VCALENDAR" ∷ [] in
    let third : List ℕ = codes "PRODID:-//ftd//Federal tax deposits//EN" in
    All-cons Line (codes "BEGIN:VCALENDAR") (codes "VERSION:2.0" ∷ third ∷ body)
    (plain_fits (codes "BEGIN:VCALENDAR") refl (omega arith))
    (All-cons Line (codes "VERSION:2.0") (third ∷ body)
    (plain_fits (codes "VERSION:2.0") refl (omega arith))
    (All-cons Line third body (plain_fits third refl (omega arith))
    (All-append Line (all_rows as_of rows) (codes "END:VCALENDAR" ∷ []) (rows_fit as_of rows are)
    end)))

said_lines : (as_of : ℕ) (rows : List AgendaRow) → AreAgendaRowsInRange rows
    → AreLines (agenda_calendar as_of rows) (calendar_lines as_of rows)
said_lines as_of rows are = record {
  joined = sym (calendar_text as_of rows);
  unbroken = All-weaker Line (λ line. list_any is_break line ≡ false) (λ line fits. fits.clear)
      (calendar_lines as_of rows) (calendar_fits as_of rows are);
}

pub are_lines : (as_of : ℕ) (rows : List AgendaRow) → AreAgendaRowsInRange rows
    → (lines : List (List ℕ)) × AreLines (agenda_calendar as_of rows) lines
are_lines as_of rows are = (calendar_lines as_of rows, said_lines as_of rows are)

-- these are the lines, whichever are said to be
pub lines_same : (as_of : ℕ) (rows : List AgendaRow) (lines : List (List ℕ))
    → AreAgendaRowsInRange rows → AreLines (agenda_calendar as_of rows) lines
    → calendar_lines as_of rows ≡ lines
lines_same as_of rows lines are said =
    same_lines (agenda_calendar as_of rows) (calendar_lines as_of rows) lines
    (said_lines as_of rows are) said

pub are_short : (as_of : ℕ) (rows : List AgendaRow) (lines : List (List ℕ))
    → AreAgendaRowsInRange rows → AreLines (agenda_calendar as_of rows) lines
    → All (λ line. length line ≤ 75) lines
are_short as_of rows lines are said =
    subst (λ (xs : List (List ℕ)). All (λ line. length line ≤ 75) xs)
    (lines_same as_of rows lines are said)
    (All-weaker Line (λ line. length line ≤ 75) (λ line fits. fits.short)
    (calendar_lines as_of rows) (calendar_fits as_of rows are))

-- ---- the dates

none_last : (depends : Bool) → filter_map start_read (last_lines depends) ≡ []
none_last true = refl
none_last false = refl

row_date : (as_of : ℕ) (x : AgendaRow) → due_date_of x ≤ last_day
    → filter_map start_read (row_lines as_of x) ≡ date_of (due_date_of x) ∷ []
row_date as_of x early =
    rw (date_reread (due_date_of x) early, none_last (depends_on_total x)) refl

rows_dates : (as_of : ℕ) (rows : List AgendaRow) → AreAgendaRowsInRange rows
    → filter_map start_read (all_rows as_of rows) ≡ map (λ x. date_of (due_date_of x)) rows
rows_dates as_of [] are = refl
rows_dates as_of (x ∷ rows) are =
    rw (
      filter_map-append start_read (row_lines as_of x) (all_rows as_of rows),
      row_date as_of x (are x (inl refl)).row.due,
      rows_dates as_of rows (λ y has. are y (inr has)),
    ) refl

nothing_behind : (dates : List Date) → dates ++ [] ≡ dates
nothing_behind [] = refl
nothing_behind (d ∷ dates) = ap (λ (xs : List Date). d ∷ xs) (nothing_behind dates)

pub dates_are : (as_of : ℕ) (rows : List AgendaRow) (lines : List (List ℕ))
    → AreAgendaRowsInRange rows → AreLines (agenda_calendar as_of rows) lines
    → start_dates lines ≡ map (λ x. date_of (due_date_of x)) rows
dates_are as_of rows lines are said =
    rw (← lines_same as_of rows lines are said)
    (filter_map-append start_read (all_rows as_of rows) (codes "END:VCALENDAR" ∷ [])
    ∙ nothing_behind (filter_map start_read (all_rows as_of rows)) ∙ rows_dates as_of rows are)
