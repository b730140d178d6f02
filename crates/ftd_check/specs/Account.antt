-- When what was read of an account is sound.
use Rattle.std.specs.Prelude.{ℕ, List, map}
use Rattle.std.specs.List.Sorted.{IsPermutation}
use Rattle.ftd_rules.specs.declared.Obligation.{Obligation}
use Rattle.ftd_rules.specs.declared.YearLine.{YearLine}
use Rattle.ftd_rules.specs.Obligations.{AreObligations}
use Rattle.ftd_store.specs.declared.year_cells.StoredYear.{StoredYear}
use Rattle.ftd_machine.specs.History.{form_of, live_sums, AreLinesOf}
use Rattle.ftd_sound.specs.Entered.{entries_in}
use Rattle.ftd_sound.specs.Own.{IsOwnSound}
use Rattle.ftd_check.specs.declared.own_rows.OwnRows.{OwnRows}

-- the line as it is stored, without whether the account is carried into it
abbrev pub stored_of : YearLine → StoredYear
stored_of line = record {
  year = line.year;
  lookback = line.lookback;
  opening = line.opening;
  turn = line.turn;
}

-- what was read of the account of the name is what requests may have entered, where the calendars
-- of these years are given, and what follows from that with these holidays
pub record IsSoundOwn (name given holidays : List ℕ) (rows : OwnRows) : Type 0 where
  pub sound : IsOwnSound given (entries_in name rows.own)
  pub lines : List YearLine
  pub are_lines : AreLinesOf (entries_in name rows.own) lines
  pub owed : List Obligation
  pub are_owed : AreObligations (form_of (entries_in name rows.own).account) lines
      (live_sums (entries_in name rows.own)) holidays owed
  pub stored_lines : IsPermutation rows.years.items (map stored_of lines)
  pub stored_owed : IsPermutation rows.obligations.items owed
