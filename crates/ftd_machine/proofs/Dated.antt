-- The year of an account's obligation.
use Rattle.std.proofs.Common.{◌≡◌, ℕ, ◌≤◌, List, sym, arith}
use Rattle.ftd_days.specs.Calendar.{year_of}
use Rattle.ftd_days.proofs.Months.{year_is}
use Rattle.ftd_rules.specs.declared.Obligation.{Obligation}
use Rattle.ftd_rules.specs.declared.YearLine.{YearLine}
use Rattle.ftd_rules.specs.Lists.{Has}
use Rattle.ftd_rules.proofs.Covering.{within_period, line_is}
use Rattle.ftd_rules.proofs.Schedules.{year_facts}
use Rattle.ftd_rules.proofs.Stated.{rows_owed}
use Rattle.ftd_machine.specs.State.{Entries}
use Rattle.ftd_machine.specs.History.{form_of, live_sums, AreOwed}

-- an open year holds its first day and its last, and there are some
pub record IsDated (lines : List YearLine) (o : Obligation) : Type 0 where
  pub line : YearLine
  pub open_year : Has lines line
  pub from_2001 : 2001 ≤ line.year
  pub to_2098 : line.year ≤ 2098
  pub begins : line.year ≡ year_of o.first
  pub ends : line.year ≡ year_of o.last
  pub some : o.first ≤ o.last

pub dated : (holidays : List ℕ) (own : Entries) (owed : List Obligation)
    → (are : AreOwed holidays own owed) → (o : Obligation) → Has owed o → IsDated are.0 o
dated holidays own owed are o has =
    let form = form_of own.account in
    let sums = live_sums own in
    let rows = rows_owed form are.0 sums holidays owed are.2 in
    let piece = (rows.all o).0 has in
    let days = within_period form are.0 sums holidays o piece in
    let line = piece.line in
    let year = line_is are.0 sums line are.1.schedules piece.open_year in
    let facts = year_facts line.year year.0 year.1 in
    let from = days.0 in
    let some = days.1 in
    let to = days.2 in
    let low = year.0 in
    let high = year.1 in
    let begins = piece.period.1 in
    let ends = piece.period.2 in
    let last = facts.3 in
    record {
      line = line;
      open_year = piece.open_year;
      from_2001 = year.0;
      to_2098 = year.1;
      begins = sym (year_is line.year o.first (omega arith) (omega arith) (omega arith)
          (omega arith));
      ends = sym (year_is line.year o.last (omega arith) (omega arith) (omega arith) (omega arith));
      some = some;
    }
