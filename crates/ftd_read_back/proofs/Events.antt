-- The lines of a row in a calendar.
use Rattle.std.proofs.Common.{◌≡◌, ◌∙◌, refl, sym, ap, ℕ, ◌≤◌, Bool, true, false}
use Rattle.std.proofs.Common.{inl, inr, List, [], ◌∷◌, ◌++◌, length, append_assoc, append-nil}
use Rattle.std.proofs.Common.{arith}
use Rattle.std.specs.Prelude.{codes, All}
use Rattle.std.specs.List.{concat, flat_map, list_any, AllByRecursion as ByRecursion}
use Rattle.std.proofs.lemmas.Bool.{cases_Bool}
use Rattle.std.proofs.lemmas.List.Concat.{flat_map-append}
use Rattle.std.proofs.lemmas.List.Elements.{All-from_recursion}
use Rattle.ftd_days.specs.Text.{day_text, cents_text}
use Rattle.ftd_rules.specs.Text.{rule_text}
use Rattle.ftd_rules.specs.Verdicts.{verdict_text}
use Rattle.ftd_machine.specs.Agenda.{depends_on_total}
use Rattle.ftd_machine.specs.declared.lists.AgendaRow.{AgendaRow}
use Rattle.ftd_answers.specs.Agendas.{form_number, left_cents}
use Rattle.ftd_answers.specs.Calendars.{plain_day, event_text, condition}
use Rattle.ftd_read_back.specs.Lines.{is_break}
use Rattle.ftd_read_back.specs.Rows.{IsAgendaRowInRange}
use Rattle.ftd_read_back.proofs.Lines.{ended}
use Rattle.ftd_read_back.proofs.Pieces.{Fits, joined, wider, literal, day_fits, plain_day_fits}
use Rattle.ftd_read_back.proofs.Pieces.{cents_fit, name_fits, form_fits, rule_fits, verdict_fits}

-- ---- the lines

abbrev pub uid : AgendaRow → List ℕ
uid x =
    concat (codes "UID:" ∷ x.account ∷ codes "-" ∷ form_number x.form ∷ codes "-"
    ∷ day_text x.row.obligation.first ∷ codes "@ftd" ∷ [])

abbrev pub stamp : ℕ → List ℕ
stamp as_of = concat (codes "DTSTAMP:" ∷ plain_day as_of ∷ codes "T000000Z" ∷ [])

abbrev pub start : AgendaRow → List ℕ
start x = concat (codes "DTSTART;VALUE=DATE:" ∷ plain_day x.row.obligation.due ∷ [])

abbrev pub summary : AgendaRow → List ℕ
summary x =
    concat (codes "SUMMARY:" ∷ x.account ∷ codes " " ∷ form_number x.form ∷ codes " "
    ∷ rule_text x.row.obligation.rule ∷ codes " " ∷ cents_text (left_cents x) ∷ [])

abbrev pub description : AgendaRow → List ℕ
description x =
    concat (codes "DESCRIPTION:" ∷ day_text x.row.obligation.first ∷ codes " to "
    ∷ day_text x.row.obligation.last ∷ codes "\\, pay by " ∷ day_text x.pay_by ∷ codes "\\, "
    ∷ verdict_text x.row.verdict ∷ [])

-- what is folded, if it is said
abbrev pub folded : List ℕ
folded = codes "  if the total for the return stays below 2500.00"

abbrev pub last_lines : Bool → List (List ℕ)
last_lines true = folded ∷ codes "END:VEVENT" ∷ []
last_lines false = codes "END:VEVENT" ∷ []

abbrev pub row_lines : ℕ → AgendaRow → List (List ℕ)
row_lines as_of x =
    codes "BEGIN:VEVENT" ∷ uid x ∷ stamp as_of ∷ start x ∷ summary x ∷ description x
    ∷ last_lines (depends_on_total x)

-- ---- they are the row's text

one_more : (pieces : List (List ℕ)) (last : List ℕ)
    → concat (pieces ++ last ∷ []) ≡ concat pieces ++ last
one_more [] last = append-nil last
one_more (piece ∷ pieces) last =
    ap (λ text. piece ++ text) (one_more pieces last)
    ∙ sym (append_assoc piece (concat pieces) last)

-- a line with a break inside is two lines
two_lines : (line other rest : List ℕ)
    → ended (line ++ 13 ∷ 10 ∷ other) ++ rest ≡ ended line ++ (ended other ++ rest)
two_lines line other rest = simp append_assoc

abbrev front_lines : ℕ → AgendaRow → List (List ℕ)
front_lines as_of x = codes "BEGIN:VEVENT" ∷ uid x ∷ stamp as_of ∷ start x ∷ summary x ∷ []

abbrev said : AgendaRow → List (List ℕ)
said x =
    codes "DESCRIPTION:" ∷ day_text x.row.obligation.first ∷ codes " to "
    ∷ day_text x.row.obligation.last ∷ codes "\\, pay by " ∷ day_text x.pay_by ∷ codes "\\, "
    ∷ verdict_text x.row.verdict ∷ []

description_text : (x : AgendaRow)
    → flat_map ended (description x ∷ folded ∷ codes "END:VEVENT" ∷ [])
    ≡ flat_map ended (concat (said x ++ condition ∷ []) ∷ codes "END:VEVENT" ∷ [])
description_text x =
    let end : List ℕ = flat_map ended (codes "END:VEVENT" ∷ []) in
    sym (two_lines (description x) folded end)
    ∙ ap (λ (line : List ℕ). ended line ++ end) (sym (one_more (said x) condition))

pub row_text : (as_of : ℕ) (x : AgendaRow) → flat_map ended (row_lines as_of x) ≡ event_text as_of x
unfolding event_text
row_text as_of x = elim (cases_Bool (depends_on_total x)) [
  | inl depends ↦
      (let front : List (List ℕ) = front_lines as_of x in
      rw depends (flat_map-append ended front (description x ∷ folded ∷ codes "END:VEVENT" ∷ [])
      ∙ ap (λ (text : List ℕ). flat_map ended front ++ text) (description_text x)
      ∙ sym (flat_map-append ended front
      (concat (said x ++ condition ∷ []) ∷ codes "END:VEVENT" ∷ []))))
  | inr other ↦ rw other refl
]

-- ---- each is short

abbrev pub Line : List ℕ → Type 0
Line line = Fits 75 line

uid_fits : (x : AgendaRow) → IsAgendaRowInRange x → Line (uid x)
uid_fits x named =
    wider 43 75 (uid x) (omega arith)
    (joined 4 39 (codes "UID:") _ (literal (codes "UID:") refl)
    (joined 20 19 x.account _ (name_fits x.account named.name)
    (joined 1 18 (codes "-") _ (literal (codes "-") refl)
    (joined 3 15 (form_number x.form) _ (form_fits x.form)
    (joined 1 14 (codes "-") _ (literal (codes "-") refl)
    (joined 10 4 (day_text x.row.obligation.first) _ (day_fits x.row.obligation.first)
    (literal (codes "@ftd") refl)))))))

stamp_fits : (as_of : ℕ) → Line (stamp as_of)
stamp_fits as_of =
    wider 24 75 (stamp as_of) (omega arith)
    (joined 8 16 (codes "DTSTAMP:") _ (literal (codes "DTSTAMP:") refl)
    (joined 8 8 (plain_day as_of) _ (plain_day_fits as_of) (literal (codes "T000000Z") refl)))

start_fits : (x : AgendaRow) → Line (start x)
start_fits x =
    wider 27 75 (start x) (omega arith)
    (joined 19 8 (codes "DTSTART;VALUE=DATE:") _ (literal (codes "DTSTART;VALUE=DATE:") refl)
    (joined 8 0 (plain_day x.row.obligation.due) [] (plain_day_fits x.row.obligation.due)
    (literal [] refl)))

summary_fits : (x : AgendaRow) → IsAgendaRowInRange x → Line (summary x)
summary_fits x named =
    let most = named.row.amount in
    wider 65 75 (summary x) (omega arith)
    (joined 8 57 (codes "SUMMARY:") _ (literal (codes "SUMMARY:") refl)
    (joined 20 37 x.account _ (name_fits x.account named.name)
    (joined 1 36 (codes " ") _ (literal (codes " ") refl)
    (joined 3 33 (form_number x.form) _ (form_fits x.form)
    (joined 1 32 (codes " ") _ (literal (codes " ") refl)
    (joined 10 22 (rule_text x.row.obligation.rule) _ (rule_fits x.row.obligation.rule)
    (joined 1 21 (codes " ") _ (literal (codes " ") refl)
    (joined 21 0 (cents_text (left_cents x)) [] (cents_fit (left_cents x) (omega arith))
    (literal [] refl)))))))))

description_fits : (x : AgendaRow) → Line (description x)
description_fits x =
    wider 70 75 (description x) (omega arith)
    (joined 12 58 (codes "DESCRIPTION:") _ (literal (codes "DESCRIPTION:") refl)
    (joined 10 48 (day_text x.row.obligation.first) _ (day_fits x.row.obligation.first)
    (joined 4 44 (codes " to ") _ (literal (codes " to ") refl)
    (joined 10 34 (day_text x.row.obligation.last) _ (day_fits x.row.obligation.last)
    (joined 10 24 (codes "\\, pay by ") _ (literal (codes "\\, pay by ") refl)
    (joined 10 14 (day_text x.pay_by) _ (day_fits x.pay_by)
    (joined 3 11 (codes "\\, ") _ (literal (codes "\\, ") refl)
    (joined 11 0 (verdict_text x.row.verdict) [] (verdict_fits x.row.verdict)
    (literal [] refl)))))))))

pub plain_fits : (line : List ℕ) → list_any is_break line ≡ false → length line ≤ 75 → Line line
plain_fits line e short = record { clear = e; short = short }

end_fits : Line (codes "END:VEVENT")
end_fits = plain_fits (codes "END:VEVENT") refl (omega arith)

last_fit : (depends : Bool) → ByRecursion Line (last_lines depends)
last_fit true = (plain_fits folded refl (omega arith), (end_fits, tt))
last_fit false = (end_fits, tt)

pub row_fits : (as_of : ℕ) (x : AgendaRow) → IsAgendaRowInRange x → All Line (row_lines as_of x)
row_fits as_of x named =
    All-from_recursion Line (row_lines as_of x) (
      plain_fits (codes "BEGIN:VEVENT") refl (omega arith),
      (
        uid_fits x named,
        (
          stamp_fits as_of,
          (
            start_fits x,
            (summary_fits x named, (description_fits x, last_fit (depends_on_total x))),
          ),
        ),
      ),
    )
