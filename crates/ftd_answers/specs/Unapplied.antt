-- The texts of money that counts for nothing.
use Rattle.std.specs.Prelude.{ℕ, ◌-◌, List, [], ◌∷◌, ◌++◌, codes, Option, Some, None}
use Rattle.std.specs.Fmt.{decimal}
use Rattle.std.specs.List.{concat, flat_map, join_with_byte}
use Rattle.ftd_days.specs.Text.{day_text}
use Rattle.ftd_machine.specs.declared.facts.UnappliedList.{UnappliedList}
use Rattle.ftd_machine.specs.declared.lists.UnappliedRow.{UnappliedRow}
use Rattle.ftd_answers.specs.Columns.{space, line_end, amount_in}
use Rattle.ftd_answers.specs.Fields.{Field, as_cents, as_day, as_number, as_text, both, csv_of}
use Rattle.ftd_answers.specs.Fields.{json_of, none_void, or_none}
use Rattle.ftd_answers.specs.declared.formats.ListFormat.{ListFormat}
use Rattle.ftd_answers.specs.declared.formats.ListFormat.TheVariants.{Text, Csv, Json}
use Rattle.ftd_answers.specs.Listings.{name_text}

-- what counts for nothing of a row, in cents: the payment, or what is paid beyond the amount of the
-- obligation
abbrev pub over_of : UnappliedRow → ℕ
over_of x = x.paid.0 - x.amount.0

-- ---- lines: the account, first and last day, amount, what was paid, what is over; at the end
-- whether it is an obligation or a payment, and which

unfoldable pub money_text : UnappliedRow → List ℕ
money_text x =
    join_with_byte space (day_text x.first ∷ day_text x.last ∷ amount_in x.amount.0
    ∷ amount_in x.paid.0 ∷ amount_in (over_of x) ∷ [])
    ++ (space ∷ [])

abbrev pub which_text : Option ℕ → List ℕ
which_text None = codes "obligation\n"
which_text (Some number) = concat (codes "payment " ∷ decimal number ∷ (line_end ∷ []) ∷ [])

unfoldable pub unapplied_line : UnappliedRow → List ℕ
unapplied_line x = name_text x.account ++ (money_text x ++ which_text x.payment)

-- the first line: `UNAPPLIED UNTIL` and the day
abbrev pub unapplied_head : ℕ → List ℕ
unapplied_head until =
    concat (codes "UNAPPLIED UNTIL " ∷ day_text until ∷ (line_end ∷ []) ∷ [])

unfoldable pub unapplied_text : ℕ → List UnappliedRow → List ℕ
unapplied_text until rows = unapplied_head until ++ flat_map unapplied_line rows

-- ---- the fields of a row, for CSV and JSON

abbrev pub unapplied_fields : List (Field UnappliedRow)
unapplied_fields =
    both (codes "account") (λ x. as_text x.account)
    ∷ both (codes "payment") (λ x. or_none as_number x.payment)
    ∷ both (codes "first") (λ x. as_day x.first) ∷ both (codes "last") (λ x. as_day x.last)
    ∷ both (codes "amount") (λ x. as_cents x.amount.0)
    ∷ both (codes "paid") (λ x. as_cents x.paid.0)
    ∷ both (codes "over") (λ x. as_cents (over_of x)) ∷ []

unfoldable pub unapplied_csv : List UnappliedRow → List ℕ
unapplied_csv rows = csv_of none_void unapplied_fields rows

unfoldable pub unapplied_json : List UnappliedRow → List ℕ
unapplied_json rows = json_of unapplied_fields [] rows

-- ---- in a format

abbrev pub unapplied_as : ListFormat → UnappliedList → List ℕ
unapplied_as Text x = unapplied_text x.until x.rows
unapplied_as Csv x = unapplied_csv x.rows
unapplied_as Json x = unapplied_json x.rows
