-- How a repair stands to the histories when it begins.
use Rattle.ftd_rules.specs.declared.Form.{Form}
use Rattle.std.proofs.Common.{get_or, length, drop, ◌≡◌, ℕ, ◌+◌, ◌<◌, ◌≤◌, inl, List, [], ◌∷◌, Bool}
use Rattle.std.proofs.Common.{refl, sym, ap, subst, arith, slice_index_or}
use Rattle.std.specs.Prelude.{IfSome}
use Rattle.std.specs.List.{All}
use Rattle.std.proofs.lemmas.List.Elements.{All-head}
use Rattle.ftd_days.specs.Calendar.{year_start}
use Rattle.ftd_days.specs.Business.{holidays_end}
use Rattle.ftd_rules.specs.declared.YearLine.{YearLine}
use Rattle.ftd_rules.specs.Lists.{Has}
use Rattle.ftd_rules.specs.Years.{year_last, AreOpenYears}
use Rattle.ftd_rules.specs.Private.Years.{semiweekly_from}
use Rattle.ftd_rules.specs.Periods.{IsPeriod}
use Rattle.ftd_rules.specs.Private.Walk.{years_end, period_first, period_last}
use Rattle.ftd_rules.proofs.Stated.{run_period}
use Rattle.ftd_rules.proofs.Items.{head_item}
use Rattle.ftd_buckets.proofs.Turns.{line_year}
use Rattle.ftd_rules.proofs.Owed.{has_right}
use Rattle.ftd_rules.proofs.Bridge.{period_is}
use Rattle.ftd_rules.proofs.Schedules.{year_facts, year_start-mono, year_divides, years_head}
use Rattle.ftd_rules.proofs.Pieces.{IsYear}
use Rattle.ftd_rules.specs.Liability.{liability}
use Rattle.ftd_rules.proofs.Covering.{line_is}
use Rattle.ftd_rules.proofs.Earlier.{counterpart}
use Rattle.ftd_buckets.specs.declared.Window.{Window}
use Rattle.ftd_buckets.specs.declared.state.Stage.TheVariants as stage
use Rattle.ftd_buckets.specs.Histories.{History, IsChange, AreLast, BeginWith, TurnsWithin}
use Rattle.ftd_buckets.specs.Ready.{Repairing, IsReady}
use Rattle.ftd_buckets.specs.Standing.{Stands, StandsIn}
use Rattle.ftd_buckets.proofs.Chain.{change_back, early_same, year_change}
use Rattle.ftd_buckets.proofs.Elsewhere.{owed_earlier, before_period}

-- the day's deposit period, in closed form
pub day_period : (form : Form) → (line : YearLine) (day : ℕ) → IsYear line
    → year_start line.year ≤ day → day ≤ year_last line.year
    → IsPeriod form line (period_first form (semiweekly_from line) day)
    (period_last form (semiweekly_from line) day)
    × (period_first form (semiweekly_from line) day ≤ day)
    × (day ≤ period_last form (semiweekly_from line) day)
day_period form line day y from to =
    let f = year_facts line.year y.0 y.1 in
    let f2 = f.2 in
    let divides = year_divides form line y.0 y.1 y.2 in
    let x = divides day from to in (
      run_period form line (period_first form (semiweekly_from line) day)
          (period_last form (semiweekly_from line) day)
          (period_is form line day f.0 (omega arith) divides from to),
      x.1,
      x.2,
    )

pub last_has : (g : History) (line : YearLine) (later : List YearLine) → AreLast g (line ∷ later)
    → Has g.lines line
last_has g line later last = subst (λ (z : List YearLine). Has z line) (sym last.1)
    (has_right last.0 (line ∷ later) line (inl refl))

pub stands_first : (form : Form) → (day : ℕ) (before after : History) (r : Repairing)
    (line : YearLine) (later : List YearLine)
    → All (λ d. d < holidays_end) r.holidays → IsChange day before after → r.lines ≡ line ∷ later
    → AreLast before (line ∷ later)
    → year_start line.year ≤ day → day ≤ year_last line.year
    → r.from ≡ period_first form (semiweekly_from line) day
    → r.asked ≡ record {
      from = period_first form (semiweekly_from line) day;
      to = period_last form (semiweekly_from line) day;
    }
    → r.rows ≡ [] → r.years ≡ [] → r.stage ≡ stage.Period
    → Stands form day r.holidays before after r
stands_first form day before after r line later known c lines last from to first asked rows years
    at =
    let has = last_has before line later last in
    let y = line_is before.lines before.sums line c.is_before has in
    let f = year_facts line.year y.0 y.1 in
    let f3 = f.3 in
    let p = day_period form line day y from to in
    let k = counterpart before.lines after.lines line c.same_years has in
    let year : line.year ≡ k.0.year = ap (λ (z : ℕ × ℕ × Bool). z.0) k.2 in
    let new = line_is after.lines after.sums k.0 c.is_after k.1 in
    let same = before_period form (liability before.sums) (liability after.sums) day line k.0
    (year_change day before after c line k.0 has k.1 year from to) y new in
    let bounds = subst (λ v. (year_start v ≤ day) × (day ≤ year_last v)) year (from, to) in
    let window : Window = record {
      from = period_first form (semiweekly_from line) day;
      to = period_last form (semiweekly_from line) day;
    } in
    let common : StandsIn form day r.holidays before after r.lines r.from r.years line k.0 =
    record {
      change = c;
      later = later;
      lines_are = lines;
      last = rw lines last;
      year = record { is_old = has; is_new = k.1; same = year };
      period = window;
      is_period = (line, has, p);
      begins = first;
      earlier = λ o l. (let less : o.first < period_first form (semiweekly_from line) day =
          omega arith in (
            owed_earlier form day before after r.holidays known c line k.0 has k.1 year from to o
                less,
            owed_earlier form day after before r.holidays known (change_back day before after c) k.0
                line k.1 has (sym year) bounds.0 bounds.1 o (rw same.0 less),
          ));
      changed = record {
        by_year = rw years tt;
        all = λ other. (
          (λ m. (let never = rw years at m in absurd never)),
          (λ m.
              let z = line_is after.lines after.sums other c.is_after m.0 in
              let fz = year_facts other.year z.0 z.1 in
              let fz3 = fz.3 in
              let less = m.2 in
              let mono = year_start-mono (other.year + 1) line.year (omega arith) in
              absurd (m.1 (early_same day after before (change_back day before after c) other m.0
              (omega arith)))),
        );
      };
    } in
    record {
      old = line;
      new = k.0;
      common = common;
      at = rw at (record {
        of_day = (from, to);
        asked = rw asked p;
        from = rw asked first;
        rows = rows;
      });
      calendar = refl;
    }

-- what is known of the first of the lines
pub record FirstLine (lines : List YearLine) (x : YearLine) : Type 0 where
  pub are : lines ≡ x ∷ drop 1 lines
  pub begin : 2001 ≤ x.year
  pub end : x.year ≤ 2098
  pub turn : TurnsWithin x
  pub year : IsYear x
  pub top : semiweekly_from x ≤ year_last x.year + 1
  pub early : IfSome x.turn (λ t. t < years_end)

pub first_line : (lines : List YearLine) (x : YearLine) → 0 < length lines → x ≡ get_or lines 0 x
    → AreOpenYears lines → All TurnsWithin lines → FirstLine lines x
first_line lines x some is years turns =
    let e : lines ≡ x ∷ drop 1 lines = head_item lines x some is in
    let h = years_head years.0 lines x (drop 1 lines) e years.2 in
    let h0 = h.0 in let h1 = h.1 in let y1 = years.1 in
    let t : All TurnsWithin (x ∷ drop 1 lines) = subst (λ (z : List YearLine). All TurnsWithin z) e
    turns in
    let t0 : TurnsWithin x = All-head TurnsWithin x (drop 1 lines) t in
    let y = line_year x (omega arith) (omega arith) t0 in
    record {
      are = e;
      begin = omega arith;
      end = omega arith;
      turn = t0;
      year = y.0;
      top = y.1;
      early = y.2;
    }

pub begin_some : (day : ℕ) (lines : List YearLine) → BeginWith day lines → 0 < length lines
begin_some day [] h = absurd h
begin_some day (x ∷ lines) h = omega arith

pub begin_with : (day : ℕ) (lines : List YearLine) (x : YearLine) → BeginWith day lines
    → lines ≡ x ∷ drop 1 lines → (year_start x.year ≤ day) × (day ≤ year_last x.year)
begin_with day lines x h e = rw e at h

-- the line of the year that is read
pub ready_line : (r : Repairing) → (h : IsReady r) → (2001 ≤ h.line.year) × (h.line.year ≤ 2098)
    × TurnsWithin h.line
ready_line r h =
    let y = h.years in
    let y1 = y.1 in
    let k = years_head y.0 r.lines h.line h.later h.lines_are y.2 in
    let k0 = k.0 in let k1 = k.1 in
    let t : All TurnsWithin (h.line ∷ h.later) = subst (λ (z : List YearLine). All TurnsWithin z)
    h.lines_are h.turns in
    (omega arith, omega arith, All-head TurnsWithin h.line h.later t)

pub line_read : {r : Repairing} → (h : IsReady r) → (d : YearLine)
    → slice_index_or r.lines 0 d ≡ h.line
line_read h d = rw h.lines_are refl

pub read_to : {r : Repairing} → (h : IsReady r) → (d : YearLine)
    → (slice_index_or r.lines 0 d).year ≤ 2098
read_to {r} h d = rw (line_read h d) (ready_line r h).1
