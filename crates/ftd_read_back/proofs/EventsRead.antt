-- The events of a calendar are read back.
use Rattle.std.proofs.Common.{◌≡◌, ◌∙◌, refl, sym, ap, ℕ, Bool, true, false, inl, inr}
use Rattle.std.proofs.Common.{append_assoc, List, [], ◌∷◌, ◌++◌, map, append-nil, arith}
use Rattle.std.specs.Prelude.{None, ◌==◌, codes}
use Rattle.std.specs.List.{list_any}
use Rattle.std.proofs.lemmas.Bool.{cases_Bool, true≢false}
use Rattle.ftd_days.specs.Text.{cents_text}
use Rattle.ftd_rules.specs.Text.{rule_text}
use Rattle.ftd_machine.specs.Agenda.{depends_on_total, due_date_of, left_of}
use Rattle.ftd_machine.specs.declared.lists.AgendaRow.{AgendaRow}
use Rattle.ftd_answers.specs.Agendas.{form_number}
use Rattle.ftd_answers.specs.Calendars.{agenda_calendar}
use Rattle.ftd_read_back.specs.Events.{Behind, EventCells, add_byte, behind, event_cells}
use Rattle.ftd_read_back.specs.Events.{event_read, events_read, words}
use Rattle.ftd_read_back.specs.Lines.{AreLines}
use Rattle.ftd_read_back.specs.Rows.{IsAgendaRowInRange, AreAgendaRowsInRange}
use Rattle.ftd_read_back.proofs.Calendars.{all_rows, lines_same}
use Rattle.ftd_read_back.proofs.Dates.{date_reread}
use Rattle.ftd_read_back.proofs.Events.{uid, stamp, start, summary, description, folded, row_lines}
use Rattle.ftd_read_back.proofs.Spelled.{cents_reread, form_reread, rule_reread}
use Rattle.ftd_read_back.proofs.Values.{no_space, plain_cents, plain_form, plain_name, plain_rule}

-- ---- the words of a summary

last_word : (word : List ℕ) → list_any (λ b. b == 32) word ≡ false → words word ≡ word ∷ []
last_word [] e = refl
last_word (b ∷ word) e = elim (cases_Bool (b == 32)) [
  | inl space ↦ absurd (true≢false (rw space at e))
  | inr other ↦
      rw other (ap (λ (ws : List (List ℕ)). add_byte b ws) (last_word word (rw other at e)))
]

first_word : (word rest : List ℕ) → list_any (λ b. b == 32) word ≡ false
    → words (word ++ 32 ∷ rest) ≡ word ∷ words rest
first_word [] rest e = refl
first_word (b ∷ word) rest e = elim (cases_Bool (b == 32)) [
  | inl space ↦ absurd (true≢false (rw space at e))
  | inr other ↦
      rw other (ap (λ (ws : List (List ℕ)). add_byte b ws) (first_word word rest (rw other at e)))
]

summary_words : (x : AgendaRow) → IsAgendaRowInRange x
    → words (x.account ++ 32 ∷ (form_number x.form ++ 32 ∷ (rule_text x.row.obligation.rule
    ++ 32 ∷ (cents_text (left_of x.row) ++ []))))
    ≡ x.account ∷ form_number x.form ∷ rule_text x.row.obligation.rule ∷ cents_text (left_of x.row)
    ∷ []
summary_words x is =
    let form : List ℕ = form_number x.form in
    let rule : List ℕ = rule_text x.row.obligation.rule in
    let amount : List ℕ = cents_text (left_of x.row) in
    first_word x.account (form ++ 32 ∷ (rule ++ 32 ∷ (amount ++ [])))
    (no_space x.account (plain_name x.account is.name))
    ∙ ap (λ (ws : List (List ℕ)). x.account ∷ ws)
    (first_word form (rule ++ 32 ∷ (amount ++ [])) (no_space form (plain_form x.form))
    ∙ ap (λ (ws : List (List ℕ)). form ∷ ws)
    (first_word rule (amount ++ []) (no_space rule (plain_rule x.row.obligation.rule))
    ∙ ap (λ (ws : List (List ℕ)). rule ∷ ws)
    (ap words (append-nil amount)
    ∙ last_word amount (no_space amount (plain_cents (left_of x.row))))))

-- ---- an event

abbrev last_of : Bool → List (List ℕ)
last_of true = folded ∷ []
last_of false = []

abbrev lines_of : ℕ → AgendaRow → Bool → List (List ℕ)
lines_of as_of x depends =
    uid x ∷ stamp as_of ∷ start x ∷ summary x ∷ description x ∷ last_of depends

-- before what is behind it
abbrev with_event : ℕ → AgendaRow → Bool → Behind → Behind
with_event as_of x depends rest =
    record { front = None; events = lines_of as_of x depends ∷ rest.events }

row_behind : (as_of : ℕ) (x : AgendaRow) (rest : List (List ℕ)) → behind (row_lines as_of x ++ rest)
    ≡ with_event as_of x (depends_on_total x) (behind rest)
row_behind as_of x rest = elim (cases_Bool (depends_on_total x)) [
  | inl depends ↦ rw depends refl
  | inr other ↦ rw other refl
]

row_read : (as_of : ℕ) (x : AgendaRow) (depends : Bool) → IsAgendaRowInRange x
    → event_read (lines_of as_of x depends) ≡ event_cells x
row_read as_of x depends is =
    let most = is.row.amount in
    rw (
      summary_words x is,
      date_reread (due_date_of x) is.row.due,
      form_reread x.form,
      rule_reread x.row.obligation.rule,
      cents_reread (left_of x.row) (omega arith),
    ) refl

rows_read : (as_of : ℕ) (rows : List AgendaRow) (rest : List (List ℕ)) → AreAgendaRowsInRange rows
    → (behind rest).events ≡ []
    → map event_read (behind (all_rows as_of rows ++ rest)).events ≡ map event_cells rows
rows_read as_of [] rest are none = rw none refl
rows_read as_of (x ∷ rows) rest are none =
    let others : List (List ℕ) = all_rows as_of rows ++ rest in
    let more = rows_read as_of rows rest (λ y has. are y (inr has)) none in
    ap (λ (ls : List (List ℕ)). map event_read (behind ls).events)
    (append_assoc (row_lines as_of x) (all_rows as_of rows) rest)
    ∙ ap (λ (b : Behind). map event_read b.events) (row_behind as_of x others)
    ∙ ap (λ (c : EventCells). c ∷ map event_read (behind others).events)
    (row_read as_of x (depends_on_total x) (are x (inl refl)))
    ∙ ap (λ (cs : List EventCells). event_cells x ∷ cs) more

pub events_are : (as_of : ℕ) (rows : List AgendaRow) (lines : List (List ℕ))
    → AreAgendaRowsInRange rows → AreLines (agenda_calendar as_of rows) lines
    → events_read lines ≡ map event_cells rows
events_are as_of rows lines are said =
    ap (λ (ls : List (List ℕ)). events_read ls) (sym (lines_same as_of rows lines are said))
    ∙ rows_read as_of rows (codes "END:VCALENDAR" ∷ []) are refl
