-- What is due as CSV and as JSON: over all accounts, in an account's due list, and by day.
use Rattle.std.specs.Prelude.{ℕ, List, [], ◌∷◌, ◌++◌, codes}
use Rattle.std.specs.List.{sum_by}
use Rattle.ftd_days.specs.Text.{cents_text}
use Rattle.ftd_rules.specs.Liability.{cents_of}
use Rattle.ftd_rules.specs.Text.{rule_text}
use Rattle.ftd_rules.specs.Verdicts.{amount_of, verdict_text}
use Rattle.ftd_rules.specs.declared.DaySum.{DaySum}
use Rattle.ftd_rules.specs.declared.verdict.DueRow.{DueRow}
use Rattle.ftd_machine.specs.Agenda.{left_of}
use Rattle.ftd_machine.specs.declared.lists.AgendaRow.{AgendaRow}
use Rattle.ftd_answers.specs.Agendas.{form_number, left_cents}
use Rattle.ftd_answers.specs.Fields.{Field, as_cents, as_day, as_text, both, csv_of, json_of}
use Rattle.ftd_answers.specs.Fields.{member, none_void, quoted}

-- the fields of an obligation: first and last day, rule, amount, what was paid, what is left
abbrev pub deposit_fields : {T : Type 0} → (T → DueRow) → List (Field T)
deposit_fields row =
    both (codes "first") (λ x. as_day (row x).obligation.first)
    ∷ both (codes "last") (λ x. as_day (row x).obligation.last)
    ∷ both (codes "rule") (λ x. as_text (rule_text (row x).obligation.rule))
    ∷ both (codes "amount") (λ x. as_cents (row x).obligation.cents.0)
    ∷ both (codes "paid") (λ x. as_cents (row x).paid.0)
    ∷ both (codes "left") (λ x. as_cents (left_of (row x))) ∷ []

-- a sum of amounts, as a member behind the rows
abbrev pub sum_member : List ℕ → ℕ → List ℕ
sum_member name total = member name (quoted (cents_text total))

-- ---- over all accounts

-- the fields of a row: when it is due, the account and its form; those of the obligation; the day
-- to pay by, and the verdict
abbrev pub agenda_fields : List (Field AgendaRow)
agenda_fields =
    both (codes "due") (λ x. as_day x.row.obligation.due)
    ∷ both (codes "account") (λ x. as_text x.account)
    ∷ both (codes "form") (λ x. as_text (form_number x.form))
    ∷ (deposit_fields (λ x. x.row) ++ (both (codes "pay_by") (λ x. as_day x.pay_by)
    ∷ both (codes "verdict") (λ x. as_text (verdict_text x.row.verdict)) ∷ []))

unfoldable pub agenda_csv : List AgendaRow → List ℕ
agenda_csv rows = csv_of none_void agenda_fields rows

-- the rows, and the sum of what is left of them
unfoldable pub agenda_json : List AgendaRow → List ℕ
agenda_json rows =
    json_of agenda_fields (sum_member (codes "left") (sum_by left_cents rows) ∷ []) rows

-- ---- the due list of an account's quarter

-- the fields of a row: when it is due, and the account; those of the obligation; its makeup date,
-- and the verdict
abbrev pub due_fields : List ℕ → List (Field DueRow)
due_fields account =
    both (codes "due") (λ x. as_day x.obligation.due)
    ∷ both (codes "account") (λ x. as_text account)
    ∷ (deposit_fields (λ x. x) ++ (both (codes "makeup") (λ x. as_day x.makeup)
    ∷ both (codes "verdict") (λ x. as_text (verdict_text x.verdict)) ∷ []))

unfoldable pub due_csv : List ℕ → List DueRow → List ℕ
due_csv account rows = csv_of none_void (due_fields account) rows

-- the rows, the sum of their amounts, and that of what is left of them
unfoldable pub due_json : List ℕ → List DueRow → List ℕ
due_json account rows =
    json_of (due_fields account) (sum_member (codes "amount") (sum_by amount_of rows)
    ∷ sum_member (codes "left") (sum_by left_of rows) ∷ []) rows

-- ---- Schedule B of an account's quarter

-- the fields of a day: the account, the day, and its liability
abbrev pub day_fields : List ℕ → List (Field DaySum)
day_fields account =
    both (codes "account") (λ x. as_text account) ∷ both (codes "day") (λ x. as_day x.day)
    ∷ both (codes "amount") (λ x. as_cents x.cents.0) ∷ []

unfoldable pub b_csv : List ℕ → List DaySum → List ℕ
b_csv account sums = csv_of none_void (day_fields account) sums

-- the days, and their sum
unfoldable pub b_json : List ℕ → List DaySum → List ℕ
b_json account sums =
    json_of (day_fields account) (sum_member (codes "amount") (sum_by cents_of sums) ∷ []) sums
