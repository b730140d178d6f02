-- What is found of the rows of all accounts.
use Rattle.std.specs.Prelude.{◌≡◌, ℕ, true, List, map, Option, None, Some, Result, Ok, Err}
use Rattle.std.specs.Prelude.{nat_le, string_bytes}
use Rattle.ftd_days.specs.Calendar.{year_of}
use Rattle.ftd_days.specs.Holidays.{AreFew}
use Rattle.ftd_days.specs.declared.limits.TheConstants.{LAST_OPEN_YEAR}
use Rattle.ftd_rules.specs.Accounts.{is_account_name}
use Rattle.ftd_rules.specs.Lists.{Has}
use Rattle.ftd_sql.specs.Rows.{AccountRow}
use Rattle.ftd_sql.specs.Standing.{Tables}
use Rattle.ftd_sql.specs.declared.TableName.TheVariants.{Accounts}
use Rattle.ftd_store.specs.Added.{named_account_row}
use Rattle.ftd_store.specs.declared.kept_cells.NamedAccount.{NamedAccount}
use Rattle.ftd_machine.specs.State.{Enrolled}
use Rattle.ftd_machine.specs.Sound.{AreDistinct, name_of}
use Rattle.ftd_entries.specs.Standing.{enrolled_row}
use Rattle.ftd_check.specs.Sizes.{AreSizesOf, AreSizesTogether}
use Rattle.ftd_check.specs.Whole.{IsSoundAccount, SoundAccount, account_in, name_in}
use Rattle.ftd_check.specs.declared.soundness.Part.{Part}
use Rattle.ftd_check.specs.declared.soundness.Part.TheVariants as part
use Rattle.ftd_check.specs.declared.sizes.Sizes.{Sizes}

abbrev pub name_read : NamedAccount → List ℕ
name_read a = string_bytes a.name

-- each has the name of an account, and each name stands once
pub record AreNames (accounts : List NamedAccount) : Type 0 where
  pub each : (a : NamedAccount) → Has accounts a → is_account_name (name_read a) ≡ true
  pub once : AreDistinct name_read accounts

-- what is found of the account of this row, where the calendars of these years are given, with
-- these holidays: how many rows it has, where they are those of a sound one; or None, where they
-- are not
abbrev pub ChecksAccount : NamedAccount → List ℕ → List ℕ → Option Sizes → Tables → Type 0
ChecksAccount a given holidays None t =
    (e : Enrolled) → enrolled_row e ≡ named_account_row a → AreFew holidays
    → IsSoundAccount t given holidays e → ⊥
ChecksAccount a given holidays (Some sizes) t =
    is_account_name (name_read a) ≡ true
    → (p : SoundAccount t given holidays) × (enrolled_row (account_in p) ≡ named_account_row a)
    × AreSizesOf t (name_read a) sizes

-- the accounts of the tables are these, which are sound
pub record AreAllSound (t : Tables) (given holidays : List ℕ)
    (accounts : List (SoundAccount t given holidays)) : Type 0 where
  pub rows : t Accounts ≡ map enrolled_row (map account_in accounts)
  pub once : AreDistinct name_in accounts

-- each has the name of an account, no two have the same, and none begins after the last year that
-- can be open
pub record AreEnrolled (accounts : List Enrolled) : Type 0 where
  pub names : (e : Enrolled) → Has accounts e → is_account_name e.name ≡ true
  pub once : AreDistinct name_of accounts
  pub early : (e : Enrolled) → Has accounts e
      → nat_le (year_of e.account.start) LAST_OPEN_YEAR ≡ true

-- the tables have the list of no such accounts
abbrev pub HasBadList : Tables → Type 0
HasBadList t =
    (accounts : List Enrolled) → t Accounts ≡ map enrolled_row accounts → AreEnrolled accounts → ⊥

-- an account of the name is in the list, and what the tables have of it is not what requests may
-- have entered and what follows from that, where the calendars of these years are given, with these
-- holidays
pub record HasUnsound (t : Tables) (given holidays name : List ℕ) : Type 0 where
  pub row : AccountRow
  pub listed : Has (t Accounts) row
  pub named : row.name ≡ name
  pub unsound : (e : Enrolled) → enrolled_row e ≡ row → AreFew holidays
      → IsSoundAccount t given holidays e → ⊥

-- the part that shows that not all accounts are sound
abbrev pub ShowsBad : List ℕ → List ℕ → Part → Tables → Type 0
ShowsBad given holidays part.Holidays t = ⊥
ShowsBad given holidays part.Accounts t = HasBadList t
ShowsBad given holidays (part.Account name) t = HasUnsound t given holidays name
ShowsBad given holidays part.Rows t = ⊥

-- what is found of all accounts: that they are sound, and how many rows they have together; or the
-- part that shows that they are not
abbrev pub ChecksAccounts : List ℕ → List ℕ → Result Sizes Part → Tables → Type 0
ChecksAccounts given holidays (Err part) t = ShowsBad given holidays part t
ChecksAccounts given holidays (Ok sizes) t =
    (accounts : List (SoundAccount t given holidays)) × AreAllSound t given holidays accounts
    × AreSizesTogether t (map name_in accounts) sizes
