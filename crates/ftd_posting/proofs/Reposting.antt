-- The law: where the tables stood for a state, they stand for the state after a change of an
-- account's runs of one day.
use Rattle.std.proofs.Common.{◌≡◌, ◌≢◌, refl, sym, ap, subst, inl, ℕ, ◌+◌, ◌≤◌, Bool, List, []}
use Rattle.std.proofs.Common.{map, Ok, arith}
use Rattle.std.specs.Prelude.{filter}
use Rattle.ftd_days.specs.Calendar.{year_of, year_start}
use Rattle.ftd_days.proofs.Months.{year_is}
use Rattle.ftd_rules.specs.declared.DaySum.{DaySum}
use Rattle.ftd_rules.specs.declared.Form.{Form}
use Rattle.ftd_rules.specs.declared.Obligation.{Obligation}
use Rattle.ftd_rules.specs.declared.YearLine.{YearLine}
use Rattle.ftd_rules.specs.declared.run.PayRun.{PayRun}
use Rattle.ftd_rules.specs.declared.run.Voidable.{Voidable}
use Rattle.ftd_rules.specs.Lists.{Has}
use Rattle.ftd_rules.specs.Liability.{liability}
use Rattle.ftd_rules.specs.Obligations.{AreObligations}
use Rattle.ftd_rules.specs.Years.{AreLines, basis_of}
use Rattle.ftd_rules.proofs.Covering.{line_is}
use Rattle.ftd_rules.proofs.Earlier.{counterpart}
use Rattle.ftd_rules.proofs.Opened.{lines_some}
use Rattle.ftd_rules.proofs.Schedules.{year_facts}
use Rattle.ftd_sql.specs.declared.TableName.TheVariants.{Runs}
use Rattle.ftd_sql.specs.Rows.{RunRow}
use Rattle.ftd_sql.specs.Standing.{Tables, with_rows}
use Rattle.ftd_sql.specs.Tests.{is_live_run_between}
use Rattle.ftd_sql.specs.Orders.{RunsRise}
use Rattle.ftd_store.specs.Cells.{day_number}
use Rattle.ftd_store.specs.DaySums.{ListsDaySums}
use Rattle.ftd_buckets.specs.declared.Patch.{Patch}
use Rattle.ftd_buckets.specs.declared.Window.{Window}
use Rattle.ftd_buckets.specs.Histories.{History, IsChange}
use Rattle.ftd_buckets.specs.Windows.{IsLastNeeded}
use Rattle.ftd_buckets.specs.Patches.{IsPatch}
use Rattle.ftd_machine.specs.State.{State, Entry, Entries, entries_of, is_of, holidays}
use Rattle.ftd_machine.specs.History.{form_of, live_sums, live, AreLinesOf}
use Rattle.ftd_machine.specs.Posting.{IsPosted}
use Rattle.ftd_machine.proofs.Those.{same_lines}
use Rattle.ftd_machine.specs.Sound.{IsSound}
use Rattle.ftd_machine.specs.declared.replies.Reply.TheVariants.{Posted}
use Rattle.ftd_entries.specs.Standing.{StandsFor, IsSettled, run_entry}
use Rattle.ftd_entries.proofs.Lines.{lines_known}
use Rattle.ftd_entries.proofs.YearHolidays.{holiday_read}
use Rattle.ftd_machine.specs.declared.replies.Difference.{Difference}
use Rattle.ftd_repairs.specs.Repaired.{RunsAre, Repairs}
use Rattle.ftd_repairs.specs.Replaced.{patched}
use Rattle.ftd_repairs.specs.Reposted.{Repatches, IsReposted}
use Rattle.ftd_posting.proofs.LiveRuns.{sums_listed}
use Rattle.ftd_posting.specs.Books.{AreHolidaysIn}
use Rattle.ftd_posting.proofs.LinesAfter.{lines_of_runs}
use Rattle.ftd_posting.proofs.Placed.{IsPlaced, are_owed as owed_after, come_later as rows_later}
use Rattle.ftd_posting.proofs.Placed.{lines_put as put_are, placed_stands as all_stands}
use Rattle.ftd_posting.proofs.Placed.{placed_told as all_told}

-- the same state, but with these runs
abbrev pub with_runs : State → List (Entry (Voidable PayRun)) → State
with_runs s runs = record s { runs = runs }

-- other runs of one account, which differ on one day alone: the rows are those of the entries
pub record ChangesRuns (s : State) (name : List ℕ) (day : ℕ) (rows : List RunRow)
    (runs : List (Entry (Voidable PayRun))) : Type 0 where
  pub rows_are : rows ≡ map run_entry runs
  pub others : (other : List ℕ) → other ≢ name → filter (is_of other) runs ≡ filter
      (is_of other) s.runs
  pub same_days : (other : ℕ) → other ≢ day
      → liability (live_sums (entries_of (with_runs s runs) name)) other other ≡ liability
      (live_sums (entries_of s name)) other other

module _ (old new : Tables) (s : State) (name : List ℕ) (day : ℕ) (rows : List RunRow)
    (runs : List (Entry (Voidable PayRun)))
    (stands : StandsFor old s) (sound : IsSound s)
    (changes : ChangesRuns s name day rows runs) where
  abbrev Next : State
  Next = with_runs s runs

  abbrev own : Entries
  own = entries_of s name

  abbrev own_after : Entries
  own_after = entries_of Next name

  abbrev was : IsSettled old s name
  was = stands.settled name

  -- ---- the history before and after

  pub found_after : (others : List YearLine) × (map basis_of others ≡ map basis_of was.lines)
      × AreLines (live_sums own_after) others
  found_after = lines_some (live_sums own_after) was.lines was.are_lines.schedules.years

  abbrev pub lines_then : List YearLine
  lines_then = found_after.0

  abbrev pub before : History
  before = record { lines = was.lines; sums = live_sums own }

  abbrev pub after : History
  after = record { lines = lines_then; sums = live_sums own_after }

  pub change : IsChange day before after
  change = record {
    is_before = was.are_lines.schedules;
    is_after = found_after.2;
    same_years =
        sym found_after.1;
    same_days = λ other apart. sym (changes.same_days other apart);
  }

  -- the line of the same year before
  pub line_before : (line : YearLine) → Has lines_then line → (earlier : YearLine)
      × Has was.lines earlier × (line.year ≡ earlier.year)
  line_before line has =
      let c = counterpart lines_then was.lines line found_after.1 has in
      (c.0, c.1, ap (λ (z : ℕ × ℕ × Bool). z.0) c.2)

  -- the patch is right of this change, by these holidays
  abbrev pub IsRightBy : List ℕ → Patch → Type 0
  IsRightBy known patch = (fed : Window) × IsPatch (form_of own.account) day before after known fed
      patch × IsLastNeeded (form_of own.account) day before after fed

  -- these are the holidays of the years from the day's on, as far as years are open, and of the
  -- years after them
  abbrev pub AreKnown : List ℕ → Type 0
  AreKnown known = (line : YearLine) → Has lines_then line → year_of day ≤ line.year
      → AreHolidaysIn s known line.year × AreHolidaysIn s known (line.year + 1)

  -- ---- where a patch that is right was put in place

  module _ (lines : List YearLine) (known : List ℕ) (IsRight : Patch → Type 0)
      (difference : Difference) (repatches : Repatches name day lines IsRight difference
      (with_rows Runs rows old) new)
      (lines_are : lines ≡ was.lines) (right : IsRightBy known repatches.patch)
      (read_of : AreKnown known) where
    -- the first day of the patch is one of the day's year
    pub since_year : year_start (year_of day) ≤ repatches.patch.from
    since_year =
        let p = right.1 in
        let its = p.is_period in
        let line = its.0 in
        let y = line_is was.lines (live_sums own) line was.are_lines.schedules its.1 in
        let y0 = y.0 in let y1 = y.1 in
        let f = year_facts line.year y0 y1 in
        let f3 = f.3 in
        let from = p.from in
        let p1 = its.2.0.1 in let p2 = its.2.0.2 in let p3 = its.2.1 in let p4 = its.2.2 in
        let year = year_is line.year day (omega arith) (omega arith) (omega arith) (omega arith) in
        subst (λ n. year_start n ≤ repatches.patch.from) (sym year) (omega arith)

    some_days : repatches.patch.from ≤ repatches.patch.to + 1
    some_days =
        let p = right.1 in
        let reaches = right.2.none_after p.period (inl p.is_period) in
        let from = p.from in let to = p.to in
        omega arith

    pub are_lines : AreLinesOf own_after lines_then
    are_lines = lines_of_runs own (filter (is_of name) runs) was.lines lines_then was.are_lines
        found_after.1 found_after.2

    abbrev Placed : Type 0
    Placed = IsPlaced old (with_rows Runs rows old) new s runs s.corrected s.corrected_years name
        day
        (year_of day) before after lines known IsRight difference stands sound repatches

    placed : Placed
    placed = record {
      lines_are = lines_are;
      same_schedules = same_lines lines was.lines lines_are;
      years = was.are_lines.schedules.years;
      same_years = change.same_years;
      owed = was.are_owed.all;
      are_lines = are_lines;
      sums_are = refl;
      others = λ other apart. ap (λ rs. record (entries_of s other) { runs = rs })
          (changes.others other apart);
      replaces = right.1.replaces;
      from = since_year;
      some = some_days;
      read = read_of;
      obligations = refl;
      year_rows = λ other apart. refl;
      entered = record {
        meta = stands.entries.meta;
        enrolled = stands.entries.enrolled;
        figures = stands.entries.figures;
        days = stands.entries.days;
        paid = record { runs = changes.rows_are; payments = stands.entries.paid.payments };
      };
    }

    -- ---- what follows

    abbrev pub owed_then : List Obligation
    owed_then = patched repatches.patch.from repatches.patch.to was.owed repatches.patch.rows

    pub are_owed : AreObligations (form_of own.account) lines_then (live_sums own_after)
        (holidays s) owed_then
    are_owed = owed_after old (with_rows Runs rows old) new s runs s.corrected s.corrected_years
        name day (year_of day) before after lines known IsRight difference stands sound repatches
        placed

    pub come_later : (o : Obligation) → Has repatches.patch.rows o → repatches.patch.from ≤ o.first
    come_later = rows_later old (with_rows Runs rows old) new s runs s.corrected s.corrected_years
        name day (year_of day) before after lines known IsRight difference stands sound repatches
        placed

    pub lines_put : repatches.put.after ≡ lines_then
    lines_put = put_are old (with_rows Runs rows old) new s runs s.corrected s.corrected_years
        name day (year_of day) before after lines known IsRight difference stands sound repatches
        placed

    -- the tables stand for the state after the change
    pub placed_stands : StandsFor new Next
    placed_stands = all_stands old (with_rows Runs rows old) new s runs s.corrected
        s.corrected_years name day (year_of day) before after lines known IsRight difference stands
        sound repatches placed

    -- and what is answered is how the obligations differ before and after
    pub placed_told : IsPosted (holidays s) own own_after day
        (Ok (Posted difference))
    placed_told = all_told old (with_rows Runs rows old) new s runs s.corrected
        s.corrected_years name day (year_of day) before after lines known IsRight difference stands
        sound repatches placed

-- ---- a change whose repair read the tables

-- these rows of runs list the day sums of the account's live runs in the window
abbrev AreLiveRows : List ℕ → Window → List DaySum → List RunRow → Type 0
AreLiveRows name w sums rows = ListsDaySums RunsRise name
    (filter (is_live_run_between name (day_number w.from) (day_number w.to)) rows) sums

module _ (old new : Tables) (s : State) (name : List ℕ) (day : ℕ) (rows : List RunRow)
    (runs : List (Entry (Voidable PayRun))) (difference : Difference)
    (stands : StandsFor old s) (sound : IsSound s) (changes : ChangesRuns s name day rows runs)
    (reposted : IsReposted name (form_of (entries_of s name).account) day old
    (with_rows Runs rows old) new difference) where
  abbrev form : Form
  form = form_of (entries_of s name).account

  abbrev Right : Patch → Type 0
  Right patch = Repairs name form day reposted.lines.items reposted.holidays patch
      (with_rows Runs rows old)

  lines_listed : reposted.lines.items ≡ (stands.settled name).lines
  lines_listed = lines_known name reposted.lines old s stands reposted.listed (stands.settled name)

  runs_are : RunsAre name form (with_rows Runs rows old) day
      (before old new s name day rows runs stands sound changes)
      (after old new s name day rows runs stands sound changes)
  runs_are w needed sums live a b l m =
      let listed = subst (λ (rs : List RunRow). AreLiveRows name w sums rs) changes.rows_are live in
      sums_listed name w.from w.to runs sums listed a b l m

  right_now : IsRightBy old new s name day rows runs stands sound changes reposted.holidays
      reposted.repatches.patch
  right_now =
      reposted.repatches.right (before old new s name day rows runs stands sound changes)
      (after old new s name day rows runs stands sound changes)
      (change old new s name day rows runs stands sound changes)
      ([], sym lines_listed) runs_are

  known_now : AreKnown old new s name day rows runs stands sound changes reposted.holidays
  known_now line has from =
      let c = line_before old new s name day rows runs stands sound changes line has in
      let listed : Has reposted.lines.items c.0 = subst (λ ls. Has ls c.0) (sym lines_listed) c.1 in
      let read = reposted.read c.0 listed (subst (λ n. year_of day ≤ n) c.2 from) in
      let same = sym c.2 in
      subst (λ n. AreHolidaysIn s reposted.holidays n × AreHolidaysIn s reposted.holidays (n + 1))
      same (
        (λ d is. holiday_read old s stands sound reposted.holidays c.0.year d read.0 is),
        (λ d is. holiday_read old s stands sound reposted.holidays (c.0.year + 1) d read.1 is),
      )

  pub reposted_stands : StandsFor new (with_runs s runs)
  reposted_stands = placed_stands old new s name day rows runs stands sound changes
      reposted.lines.items reposted.holidays Right difference reposted.repatches lines_listed
      right_now known_now

  pub reposted_told : IsPosted (holidays s) (entries_of s name) (entries_of (with_runs s runs) name)
      day (Ok (Posted difference))
  reposted_told = placed_told old new s name day rows runs stands sound changes reposted.lines.items
      reposted.holidays Right difference reposted.repatches lines_listed right_now known_now
