-- The open years of an account.
use Rattle.std.specs.Prelude.{◌≡◌, ℕ, Bool, false, List, [], ◌∷◌, Option, None, Some, IfSome}
use Rattle.ftd_days.specs.Calendar.{year_of}
use Rattle.ftd_rules.specs.declared.Kind.TheVariants.{Monthly}
use Rattle.ftd_rules.specs.declared.YearLine.{YearLine}
use Rattle.ftd_store.specs.declared.account_cells.Account.{Account}
use Rattle.ftd_store.specs.declared.year_cells.StoredYear.{StoredYear}

-- the year as a line, with whether the account is carried into it
abbrev pub year_line : Bool → StoredYear → YearLine
year_line carried y = record {
  year = y.year;
  lookback = y.lookback;
  carried = carried;
  opening = y.opening;
  turn = y.turn;
}

-- the years as lines, of which the first alone may be carried
abbrev pub year_lines : Bool → List StoredYear → List YearLine
year_lines carried [] = []
year_lines carried (y ∷ ys) = year_line carried y ∷ year_lines false ys

-- whether the account that was found, if any, came in as semiweekly
abbrev pub is_carried : Option Account → Bool
is_carried None = false
is_carried (Some a) = a.carried

-- the first line is carried as the account is, which is there
abbrev pub FirstCarriedAs : Option Account → List YearLine → Type 0
FirstCarriedAs found [] = Unit {0}
FirstCarriedAs found (line ∷ lines) =
    (a : Account) × (found ≡ Some a) × (line.carried ≡ a.carried)

-- a turn is a day of the line's year, which opens monthly
abbrev pub HasFittingTurn : YearLine → Type 0
HasFittingTurn line =
    IfSome line.turn (λ turn. (line.opening ≡ Monthly) × (year_of turn ≡ line.year))
