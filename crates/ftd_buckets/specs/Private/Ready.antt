-- What a repair goes through from window to window.
use Rattle.ftd_rules.specs.declared.Form.{Form}
use Rattle.std.specs.Prelude.{ℕ, ◌+◌, ◌≤◌, Option}
use Rattle.ftd_days.specs.Calendar.{year_start}
use Rattle.ftd_rules.specs.declared.YearLine.{YearLine}
use Rattle.ftd_rules.specs.Years.{year_last}
use Rattle.ftd_rules.specs.Private.Years.{semiweekly_from}
use Rattle.ftd_rules.specs.Private.Walk.{Divides, periods}
use Rattle.ftd_buckets.specs.Ready.{Repairing}

-- the line of a year under another turn
abbrev pub with_turn : YearLine → Option ℕ → YearLine
with_turn line turn = record {
  year = line.year;
  lookback = line.lookback;
  carried = line.carried;
  opening = line.opening;
  turn = turn;
}

-- the days are whole deposit periods of the year
pub record IsWhole (form : Form) (line : YearLine) (first last : ℕ) : Type 0 where
  pub from : year_start line.year ≤ first
  pub to : last ≤ year_last line.year
  pub some : first ≤ last + 1
  pub divides : Divides (periods form (semiweekly_from line)) first last

-- the same repair with another window
abbrev pub asking : Repairing → ℕ → ℕ → Repairing
asking r from to = record {
  form = r.form;
  lines = r.lines;
  holidays = r.holidays;
  from = r.from;
  asked = record { from = from; to = to };
  rows = r.rows;
  years = r.years;
  held = r.held;
  stage = r.stage;
}
