-- All accounts as they are told, by what the tables have.
use Rattle.std.specs.Prelude.{◌≡◌, ◌↔◌, ℕ, Bool, true, List, filter, map, string_bytes, Some}
use Rattle.std.specs.Ordering.{is_lt, nat_cmp}
use Rattle.std.specs.Cmp.Lexicographic.{slice_cmp}
use Rattle.std.specs.List.Sorted.{IsPermutation}
use Rattle.ftd_rules.specs.Accounts.{is_account_name}
use Rattle.ftd_rules.specs.Lists.{Has}
use Rattle.ftd_sql.specs.Orders.{NamesRise}
use Rattle.ftd_sql.specs.Rows.{AccountRow}
use Rattle.ftd_sql.specs.Standing.{Tables}
use Rattle.ftd_sql.specs.Tests.{is_any_account}
use Rattle.ftd_sql.specs.declared.TableName.TheVariants.{Accounts}
use Rattle.ftd_store.specs.Lists.{Lists, Pairs}
use Rattle.ftd_store.specs.declared.kept_cells.NamedAccount.{NamedAccount}
use Rattle.ftd_store.specs.Kept.{IsNamedAccount}
use Rattle.ftd_machine.specs.Agenda.{EachToLater}
use Rattle.ftd_machine.specs.Kept.{IsAccountBefore, IsEnrolled}
use Rattle.ftd_machine.specs.Sound.{IsSound}
use Rattle.ftd_machine.specs.State.{State}
use Rattle.ftd_machine.specs.declared.entries.Account.{Account}
use Rattle.ftd_machine.specs.declared.kept.KeptAccount.{KeptAccount}
use Rattle.ftd_entries.specs.Known.{KnowsAccount}
use Rattle.ftd_entries.specs.Standing.{StandsFor}

abbrev pub is_account_before : KeptAccount → KeptAccount → Bool
is_account_before a b = is_lt (slice_cmp nat_cmp a.name b.name)

-- its name is the name of an account
abbrev pub has_account_name : KeptAccount → Bool
has_account_name x = is_account_name x.name

-- the name in a row of the table, and that of an account
abbrev pub name_in_row : AccountRow → List ℕ
name_in_row a = a.name

abbrev pub name_of : KeptAccount → List ℕ
name_of x = x.name

abbrev pub kept_account : List ℕ → Account → KeptAccount
kept_account name account = record { name = name; account = account }

-- the account of the row is told as it is in force
abbrev pub IsToldAccount : Tables → NamedAccount → KeptAccount → Type 0
IsToldAccount t row x =
    (x.name ≡ string_bytes row.name) × KnowsAccount (string_bytes row.name) (Some x.account) t

-- they are all accounts, by the rows of the table
pub record AreToldAccounts (rows : List KeptAccount) (t : Tables) : Type 0 where
  pub named : List NamedAccount
  pub are_named : Lists NamesRise IsNamedAccount (filter is_any_account (t Accounts)) named
  pub are_told : Pairs (IsToldAccount t) named rows

-- they are the accounts of the table's rows, each once, by name, and each name is the name of an
-- account, whatever else the tables hold; in each sound state for which these stand they are all
-- that are enrolled
pub record KnowsAccounts (rows : List KeptAccount) (t : Tables) : Type 0 where
  pub in_table : IsPermutation (map name_in_row (t Accounts)) (map name_of rows)
  pub names : (x : KeptAccount) → Has rows x → is_account_name x.name ≡ true
  pub by_name : EachToLater IsAccountBefore rows
  pub all : (s : State) → StandsFor t s → IsSound s → (x : KeptAccount)
      → Has rows x ↔ IsEnrolled s x
