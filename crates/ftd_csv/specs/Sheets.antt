-- What a text of CSV lists.
use Rattle.std.specs.Prelude.{ℕ, List, [], ◌∷◌, codes, length}
use Rattle.ftd_csv.specs.declared.sheets.Sheet.{Sheet}
use Rattle.ftd_csv.specs.declared.sheets.Sheet.TheVariants as sheet
use Rattle.ftd_verbs.specs.declared.field.Field.{Field}
use Rattle.ftd_verbs.specs.declared.field.Field.TheVariants as field

-- the header: the names of the fields of its records
abbrev pub header_row : Sheet → List (List ℕ)
header_row sheet.Runs =
    codes "employer" ∷ codes "run" ∷ codes "payday" ∷ codes "fit" ∷ codes "ss" ∷ codes "medicare"
    ∷ []
header_row sheet.Accounts =
    codes "employer" ∷ codes "first_day" ∷ codes "carried" ∷ codes "form" ∷ []
header_row sheet.Totals = codes "employer" ∷ codes "period" ∷ codes "amount" ∷ []
header_row sheet.Payments =
    codes "employer" ∷ codes "payment" ∷ codes "paid" ∷ codes "for" ∷ codes "amount" ∷ []

-- how many fields its records have
abbrev pub width_of : Sheet → ℕ
width_of kind = length (header_row kind)

-- the column that gives a field of what its records ask for, by its number, which counts from 1; 0
-- where none does. The period of a total is its quarter or its year.
unfoldable pub column_of : Sheet → Field → ℕ
column_of kind field.Account = 1
column_of sheet.Runs field.Run = 2
column_of sheet.Runs field.Payday = 3
column_of sheet.Runs field.Fit = 4
column_of sheet.Runs field.Ss = 5
column_of sheet.Runs field.Medicare = 6
column_of sheet.Accounts field.Start = 2
column_of sheet.Accounts field.Carried = 3
column_of sheet.Accounts field.Form = 4
column_of sheet.Totals field.Quarter = 2
column_of sheet.Totals field.Year = 2
column_of sheet.Totals field.Amount = 3
column_of sheet.Payments field.Payment = 2
column_of sheet.Payments field.Paid = 3
column_of sheet.Payments field.For = 4
column_of sheet.Payments field.Amount = 5
column_of kind other = 0
