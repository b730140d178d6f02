-- The text of a due list.
use Rattle.std.specs.Prelude.{ℕ, List, [], ◌∷◌, ◌++◌, codes}
use Rattle.std.specs.List.{sum_by, flat_map, join_with_byte}
use Rattle.ftd_days.specs.Text.{day_text, quarter_text}
use Rattle.ftd_rules.specs.Text.{rule_text}
use Rattle.ftd_rules.specs.Verdicts.{amount_of, verdict_text}
use Rattle.ftd_rules.specs.declared.verdict.DueRow.{DueRow}
use Rattle.ftd_answers.specs.Columns.{space, line_end, left_in, amount_in}

-- the first line: `DUE LIST`, account, quarter, `AS OF` and the day
abbrev pub due_head : List ℕ → ℕ → ℕ → List ℕ
due_head account quarter as_of =
    codes "DUE LIST " ++ account ++ (space ∷ quarter_text quarter) ++ codes " AS OF "
    ++ day_text as_of ++ (line_end ∷ [])

-- the columns of a row: first and last day, rule, amount, due date, makeup date, what was paid, and
-- the verdict
abbrev pub columns_of : DueRow → List (List ℕ)
columns_of row =
    let o = row.obligation in
    day_text o.first ∷ day_text o.last ∷ left_in 10 (rule_text o.rule) ∷ amount_in o.cents.0
    ∷ day_text o.due
    ∷ day_text row.makeup ∷ amount_in row.paid.0 ∷ verdict_text row.verdict ∷ []

-- the line of a row: its columns, with one space between
unfoldable pub due_line : DueRow → List ℕ
due_line row = join_with_byte space (columns_of row) ++ (line_end ∷ [])

-- the last line: `TOTAL` and the sum of the amounts
abbrev pub total_line : ℕ → List ℕ
total_line total = left_in 32 (codes "TOTAL") ++ (space ∷ amount_in total) ++ (line_end ∷ [])

-- the due list of an account's quarter as of a day: the first line, a line for each row, the last
-- line
unfoldable pub due_text : List ℕ → ℕ → ℕ → List DueRow → List ℕ
due_text account quarter as_of rows =
    due_head account quarter as_of ++ (flat_map due_line rows ++ total_line (sum_by amount_of rows))
