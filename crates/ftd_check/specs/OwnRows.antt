-- What is read of the rows of one account.
use Rattle.std.specs.Prelude.{◌≡◌, ℕ, List, map, filter, Option, None, Some}
use Rattle.std.specs.List.Sorted.{IsPermutation, IsNonDecreasing}
use Rattle.ftd_days.specs.Holidays.{AreFew}
use Rattle.ftd_sql.specs.Standing.{Tables}
use Rattle.ftd_sql.specs.Tests.{is_year_of, is_obligation_of_account}
use Rattle.ftd_sql.specs.declared.TableName.TheVariants.{Years, Obligations}
use Rattle.ftd_store.specs.Added.{stored_year_row}
use Rattle.ftd_store.specs.Rows.{obligation_row}
use Rattle.ftd_store.specs.declared.account_cells.Account.{Account}
use Rattle.ftd_store.specs.declared.year_cells.StoredYear.{StoredYear}
use Rattle.ftd_machine.specs.State.{Entries}
use Rattle.ftd_sound.specs.Entered.{entries_in}
use Rattle.ftd_sound.specs.Own.{IsOwnSound}
use Rattle.ftd_check.specs.Parts.{HasEntered, HasSettled}
use Rattle.ftd_check.specs.declared.own_rows.OwnRows.{OwnRows}

abbrev pub year_of_stored : StoredYear → ℕ
year_of_stored y = y.year

-- the rows of the account of the name are those of these entries, which requests may have entered
-- where the calendars of these years are given, and the rows that follow from them, with these
-- holidays, of which no year has more than 60
pub record AreSoundRows (t : Tables) (name : List ℕ) (own : Entries) (given holidays : List ℕ)
    : Type 0 where
  pub entered : HasEntered t name own
  pub sound : IsOwnSound given own
  pub few : AreFew holidays
  pub settled : HasSettled t name own holidays

-- the rows of the account of the name are those of no such entries
abbrev pub AreUnsoundRows : List ℕ → Tables → Type 0
AreUnsoundRows name t =
    (own : Entries) (given holidays : List ℕ) → AreSoundRows t name own given holidays → ⊥

-- the rows of the account of the name, which begins so, are these; the open years are in order
pub record AreRowsOf (t : Tables) (name : List ℕ) (account : Account) (rows : OwnRows) : Type 0
  where
    pub entered : HasEntered t name (entries_in name rows.own)
    pub start : rows.own.account.start ≡ account.start
    pub carried : rows.own.account.carried ≡ account.carried
    pub years : map (stored_year_row name) rows.years.items ≡ filter (is_year_of name) (t Years)
    pub open_years : IsPermutation (map year_of_stored rows.years.items)
        rows.own.open_years.items
    pub in_order : IsNonDecreasing rows.own.open_years.items
    pub obligations : map (obligation_row name) rows.obligations.items
        ≡ filter (is_obligation_of_account name) (t Obligations)

-- what is read of the account of the name, whose row says that it begins so: its rows; or None,
-- where they are those of no entries that requests may have entered
abbrev pub ReadsOwn : List ℕ → Account → Option OwnRows → Tables → Type 0
ReadsOwn name account None t = AreUnsoundRows name t
ReadsOwn name account (Some rows) t = AreRowsOf t name account rows
