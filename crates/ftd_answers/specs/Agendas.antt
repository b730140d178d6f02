-- The text of what is due over all accounts.
use Rattle.std.specs.Prelude.{ℕ, List, [], ◌∷◌, ◌++◌, codes}
use Rattle.std.specs.List.{sum_by, flat_map, join_with_byte}
use Rattle.ftd_days.specs.Text.{day_text}
use Rattle.ftd_rules.specs.Text.{rule_text}
use Rattle.ftd_rules.specs.Verdicts.{verdict_text}
use Rattle.ftd_rules.specs.declared.Form.{Form}
use Rattle.ftd_rules.specs.declared.Form.TheVariants.{F941, F943}
use Rattle.ftd_machine.specs.Agenda.{left_of}
use Rattle.ftd_machine.specs.declared.lists.AgendaRow.{AgendaRow}
use Rattle.ftd_answers.specs.Columns.{space, line_end, left_in, amount_in}

-- the first line of what is due between two days: `AGENDA`, the days, `AS OF` and the as-of day
abbrev pub agenda_head : ℕ → ℕ → ℕ → List ℕ
agenda_head from to as_of =
    codes "AGENDA " ++ day_text from ++ (space ∷ day_text to) ++ codes " AS OF " ++ day_text as_of
    ++ (line_end ∷ [])

-- the first line of what is due until a day and not paid: `OWED UNTIL`, the day, `AS OF` and the
-- as-of day
abbrev pub owed_head : ℕ → ℕ → List ℕ
owed_head until as_of =
    codes "OWED UNTIL " ++ day_text until ++ codes " AS OF " ++ day_text as_of ++ (line_end ∷ [])

-- the number of a form
abbrev pub form_number : Form → List ℕ
form_number F941 = codes "941"
form_number F943 = codes "943"

-- what is left to pay of a row, in cents
abbrev pub left_cents : AgendaRow → ℕ
left_cents x = left_of x.row

-- the columns of a row: when it is due, the account and its form
abbrev pub owner_columns : AgendaRow → List (List ℕ)
owner_columns x =
    day_text x.row.obligation.due ∷ left_in 20 x.account ∷ form_number x.form ∷ []

-- first and last day, rule, amount, what was paid, what is left, the day to pay by, and the verdict
abbrev pub deposit_columns : AgendaRow → List (List ℕ)
deposit_columns x =
    let o = x.row.obligation in
    day_text o.first ∷ day_text o.last ∷ left_in 10 (rule_text o.rule) ∷ amount_in o.cents.0
    ∷ amount_in x.row.paid.0
    ∷ amount_in (left_cents x) ∷ day_text x.pay_by ∷ verdict_text x.row.verdict ∷ []

-- the line of a row: its columns, with one space between
unfoldable pub owner_text : AgendaRow → List ℕ
owner_text x = join_with_byte space (owner_columns x) ++ (space ∷ [])

unfoldable pub deposit_text : AgendaRow → List ℕ
deposit_text x = join_with_byte space (deposit_columns x) ++ (line_end ∷ [])

unfoldable pub agenda_line : AgendaRow → List ℕ
agenda_line x = owner_text x ++ deposit_text x

-- the last line: `TOTAL` and the sum of what is left, under what is left of each row
abbrev pub left_line : ℕ → List ℕ
left_line total = left_in 104 (codes "TOTAL") ++ (space ∷ amount_in total) ++ (line_end ∷ [])

-- below the first line: a line for each row, the last line
unfoldable pub lines_text : List AgendaRow → List ℕ
lines_text rows = flat_map agenda_line rows ++ left_line (sum_by left_cents rows)

-- what is due between two days over all accounts, as of a day
unfoldable pub agenda_text : ℕ → ℕ → ℕ → List AgendaRow → List ℕ
agenda_text from to as_of rows = agenda_head from to as_of ++ lines_text rows

-- what is due until a day over all accounts and not paid, as of a day
unfoldable pub owed_text : ℕ → ℕ → List AgendaRow → List ℕ
owed_text until as_of rows = owed_head until as_of ++ lines_text rows
