-- Due dates that are moved in the rows of obligations.
use Rattle.std.specs.Prelude.{◌≡◌, ◌⊎◌, true, ℕ, Bool, List, string_bytes}
use Rattle.std.specs.Global.{Vec}
use Rattle.ftd_rules.specs.Due.{IsDue}
use Rattle.ftd_rules.specs.Lists.{Has}
use Rattle.ftd_sql.specs.declared.TableName.{TableName}
use Rattle.ftd_sql.specs.declared.TableName.TheVariants.{Obligations}
use Rattle.ftd_sql.specs.Rows.{ObligationRow}
use Rattle.ftd_sql.specs.Standing.{Tables, with_rows}
use Rattle.ftd_sql.specs.Tests.{is_obligation, with_due}
use Rattle.ftd_store.specs.declared.obligation_cells.AccountObligation.{AccountObligation}
use Rattle.ftd_store.specs.Cells.{day_number}
use Rattle.ftd_store.specs.Lists.{Pairs}
use Rattle.ftd_store.specs.Finds.{ListsDueOver}
use Rattle.ftd_store.specs.Changes.{with_added_holiday, with_holiday_change}
use Rattle.ftd_posting.specs.Known.{KnowsHolidays}
use Rattle.ftd_posting.specs.declared.moving.DayEntry.{DayEntry}
use Rattle.ftd_posting.specs.declared.moving.DayEntry.TheVariants.{Added, Changed}

-- the row is the one of the account and the first day of the obligation
abbrev pub is_row_of : AccountObligation → ObligationRow → Bool
is_row_of o = is_obligation (string_bytes o.account) (day_number o.obligation.first)

-- the obligation is due then by the holidays
abbrev pub IsDueThen : List ℕ → AccountObligation → ℕ → Type 0
IsDueThen holidays o due = IsDue holidays o.obligation.rule o.obligation.last due

-- the row has the due date that one of the obligations has by the holidays, of its account and
-- first day
abbrev pub IsMoved : List ℕ → List AccountObligation → ObligationRow → ObligationRow → Type 0
IsMoved holidays obligations old new =
    (o : AccountObligation) × Has obligations o × (is_row_of o old ≡ true)
    × ((due : ℕ) × IsDueThen holidays o due × (new ≡ with_due (day_number due) old))

-- the row stays, and each of the obligations of its account and first day is due then as before
abbrev pub IsLeft : List ℕ → List AccountObligation → ObligationRow → ObligationRow → Type 0
IsLeft holidays obligations old new =
    (new ≡ old)
    × ((o : AccountObligation) → Has obligations o → is_row_of o old ≡ true
    → IsDueThen holidays o o.obligation.due)

-- what becomes of a row
abbrev pub IsAfter : List ℕ → List AccountObligation → ObligationRow → ObligationRow → Type 0
IsAfter holidays obligations old new =
    IsMoved holidays obligations old new ⊎ IsLeft holidays obligations old new

-- this becomes of each row of an obligation, in its place, and no other row differs
pub record MovesDue (holidays : List ℕ) (obligations : List AccountObligation) (old new : Tables)
    : Type 0 where
  pub rows : Pairs (IsAfter holidays obligations) (old Obligations) (new Obligations)
  pub only : (n : TableName) → new n ≡ with_rows Obligations (new Obligations) old n

-- the obligations that begin before the day and are due on it or later have the due dates that they
-- have by the holidays
pub record MovesOver (day : ℕ) (holidays : List ℕ) (old new : Tables) : Type 0 where
  pub obligations : Vec AccountObligation
  pub listed : ListsDueOver day obligations old
  pub moves : MovesDue holidays obligations.items old new

-- the day of which something is entered
abbrev pub day_of : DayEntry → ℕ
day_of (Added day) = day
day_of (Changed change) = change.day

-- a holiday more in its year, or one more change of a day
abbrev pub with_entered : DayEntry → Tables → Tables
with_entered (Added day) = with_added_holiday day
with_entered (Changed change) = with_holiday_change change

-- it is entered, and then the due dates are moved by the holidays as they are with it
pub record EntersDay (entry : DayEntry) (old new : Tables) : Type 0 where
  pub holidays : List ℕ
  pub known : KnowsHolidays (day_of entry) holidays (with_entered entry old)
  pub moved : MovesOver (day_of entry) holidays (with_entered entry old) new
