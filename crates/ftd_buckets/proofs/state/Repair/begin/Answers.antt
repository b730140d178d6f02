use Rattle.std.proofs.Common.{arith, ◌≡◌, ◌<◌, ◌≤◌, ℕ, List, get_or, refl, ◌∙◌, ap, drop}
use Rattle.std.specs.List.{All}
use Rattle.ftd_days.specs.Holidays.{holidays_of}
use Rattle.ftd_rules.specs.declared.YearLine.{YearLine}
use Rattle.ftd_rules.specs.Private.Years.{semiweekly_from}
use Rattle.ftd_rules.specs.Years.{AreOpenYears}
use Rattle.ftd_rules.specs.Private.Walk.{period_first, period_last, years_end}
use Rattle.ftd_rules.proofs.Schedules.{year_facts}
use Rattle.ftd_buckets.specs.declared.Window.{Window}
use Rattle.ftd_buckets.specs.declared.state.Stage.TheVariants as stage
use Rattle.ftd_buckets.specs.Histories.{BeginWith, TurnsWithin}
use Rattle.ftd_buckets.specs.Ready.{Repairing}
use Rattle.ftd_buckets.proofs.Begun.{day_period, stands_first, first_line, begin_some, begin_with}
use Rattle.ftd_buckets.proofs.state.Repair.begin.Goals as goal

-- the day lies in the years that may be open
begun : (day : ℕ) (lines : List YearLine) (x : YearLine) → BeginWith day lines
    → x ≡ get_or lines 0 x → AreOpenYears lines → All TurnsWithin lines
    → (7 ≤ day) × (day < years_end)
begun day lines x first is years turns =
    let l = first_line lines x (begin_some day lines first) is years turns in
    let w = begin_with day lines x first l.are in
    let w0 = w.0 in let w1 = w.1 in
    let f = year_facts x.year l.begin l.end in
    let f0 = f.0 in let f2 = f.2 in
    (omega arith, omega arith)

pub first_semiweekly_day-requires-clause-to : goal.first_semiweekly_day-requires-clause-to
first_semiweekly_day-requires-clause-to c =
    (first_line c.args.lines.now c.index-lines-0.result
    (begin_some c.args.day c.args.lines.now c.requires.first) c.index-lines-0.is c.requires.years
    c.requires.turns).end

pub first_semiweekly_day-requires-clause-turn : goal.first_semiweekly_day-requires-clause-turn
first_semiweekly_day-requires-clause-turn c =
    (first_line c.args.lines.now c.index-lines-0.result
    (begin_some c.args.day c.args.lines.now c.requires.first) c.index-lines-0.is c.requires.years
    c.requires.turns).early

pub period_of-period-requires-clause-early : goal.period_of-period-requires-clause-early
period_of-period-requires-clause-early c =
    let l = begun c.args.day c.args.lines.now _ c.requires.first c.index-lines-0.is
    c.requires.years c.requires.turns in
    omega (arith, l.0)

pub period_of-period-requires-clause-late : goal.period_of-period-requires-clause-late
period_of-period-requires-clause-late c =
    let l = begun c.args.day c.args.lines.now _ c.requires.first c.index-lines-0.is
    c.requires.years c.requires.turns in
    omega (arith, l.1)

pub invariant_of-repair : goal.invariant_of-repair
invariant_of-repair c =
    let x : YearLine = c.index-lines-0.result in
    let l = first_line c.args.lines.now x (begin_some c.args.day c.args.lines.now c.requires.first)
    c.index-lines-0.is c.requires.years c.requires.turns in
    let w = begin_with c.args.day c.args.lines.now x c.requires.first l.are in
    let p = day_period c.args.form x c.args.day l.year w.0 w.1 in
    record {
      line = x;
      later = drop 1 c.args.lines.now;
      lines_are = l.are;
      years = c.requires.years;
      turns = c.requires.turns;
      at = (
        rw (
          c.period_of-period.ensures.first,
          c.period_of-period.ensures.last,
          c.first_semiweekly_day.ensures.day,
        ) p.0,
        c.new-held.ensures.items,
      );
    }

pub returns-clause-window : goal.returns-clause-window
returns-clause-window c =
    let x : YearLine = c.index-lines-0.result in
    let l = first_line c.args.lines.now x (begin_some c.args.day c.args.lines.now c.requires.first)
    c.index-lines-0.is c.requires.years c.requires.turns in
    let w = begin_with c.args.day c.args.lines.now x c.requires.first l.are in
    let p = day_period c.args.form x c.args.day l.year w.0 w.1 in (
      x,
      drop 1 c.args.lines.now,
      l.are,
      rw (
        c.period_of-period.ensures.first,
        c.period_of-period.ensures.last,
        c.first_semiweekly_day.ensures.day,
      ) p,
    )

pub returns-clause-stands : goal.returns-clause-stands
returns-clause-stands c = λ before after change last.
    let x : YearLine = c.index-lines-0.result in
    let l = first_line c.args.lines.now x (begin_some c.args.day c.args.lines.now c.requires.first)
    c.index-lines-0.is c.requires.years c.requires.turns in
    let w = begin_with c.args.day c.args.lines.now x c.requires.first l.are in
    let first : c.period_of-period.result.first ≡ period_first c.args.form
    (semiweekly_from x) c.args.day = c.period_of-period.ensures.first
    ∙ ap (λ s. period_first c.args.form s c.args.day) c.first_semiweekly_day.ensures.day in
    let to : c.period_of-period.result.last ≡ period_last c.args.form
    (semiweekly_from x) c.args.day = c.period_of-period.ensures.last
    ∙ ap (λ s. period_last c.args.form s c.args.day) c.first_semiweekly_day.ensures.day in
    let asked : ◌≡◌ {A = Window} (record {
      from = c.period_of-period.result.first;
      to = c.period_of-period.result.last;
    }) (record {
      from = period_first c.args.form (semiweekly_from x) c.args.day;
      to = period_last c.args.form (semiweekly_from x) c.args.day;
    }) =
    λ i. record { from = first i; to = to i } in
    let r : Repairing = record {
      form = c.args.form;
      lines = c.args.lines.now;
      holidays = holidays_of c.args.holidays.now;
      from = c.period_of-period.result.first;
      asked = record {
        from = c.period_of-period.result.first;
        to = c.period_of-period.result.last;
      };
      rows = c.new-rows.result.items;
      years = c.new-years.result.items;
      held = c.new-held.result.items;
      stage = stage.Period;
    } in
    stands_first c.args.form c.args.day before after r x (drop 1 c.args.lines.now)
    c.end_before_2100.ensures change l.are (rw l.are at last) w.0 w.1 first asked
    c.new-rows.ensures.items c.new-years.ensures.items refl
