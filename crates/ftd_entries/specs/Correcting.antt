-- What the rows tell of an account before it is put right.
use Rattle.std.specs.Prelude.{◌≡◌, ℕ, Bool, List, length}
use Rattle.ftd_sql.specs.Standing.{Tables}
use Rattle.ftd_store.specs.declared.correction_cells.AccountCorrection.{AccountCorrection}
use Rattle.ftd_machine.specs.Requests.{is_unused}
use Rattle.ftd_machine.specs.declared.entries.Beginning.{Beginning}
use Rattle.ftd_machine.specs.State.{State, entries_of, moves_in, numbered}
use Rattle.ftd_entries.specs.declared.beginnings.KnownForCorrection.{KnownForCorrection}
use Rattle.ftd_entries.specs.Known.{KnowsAccount}
use Rattle.ftd_entries.specs.Standing.{StandsFor}

-- whether nothing rests on the account, in each state for which the tables stand
abbrev pub KnowsUnused : List ℕ → Bool → Tables → Type 0
KnowsUnused name unused t =
    (s : State) → StandsFor t s → is_unused (entries_of s name) ≡ unused

-- the account, its correction of the number, whether nothing rests on it, and how many corrections
-- it has
pub record KnowsForCorrection (name : List ℕ) (number : ℕ) (before : KnownForCorrection)
    (t : Tables) : Type 0 where
  pub account : KnowsAccount name before.account t
  pub known : (s : State) → StandsFor t s → numbered number (moves_in s name) ≡ before.known
  pub is_unused : KnowsUnused name before.is_unused t
  pub count : (s : State) → StandsFor t s → length (moves_in s name) ≡ before.count

-- a beginning as the correction of a number
abbrev pub correction_of : ℕ → Beginning → AccountCorrection
correction_of number b = record {
  number = number;
  account = record { start = b.start; carried = b.carried };
}
