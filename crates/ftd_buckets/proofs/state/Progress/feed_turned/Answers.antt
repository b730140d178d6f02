use Rattle.std.proofs.Common.{arith, rules, ◌≡◌, ◌<◌, ◌+◌, ◌-◌, ℕ, ◌++◌, refl, sym, ◌∙◌, ap, subst}
use Rattle.std.proofs.Common.{slice_index_or, take, drop, List}
use Rattle.std.specs.Prelude.{Option}
use Rattle.ftd_days.specs.Holidays.{holidays_of}
use Rattle.ftd_rules.specs.declared.DaySum.{DaySum}
use Rattle.ftd_rules.specs.declared.YearLine.{YearLine}
use Rattle.ftd_rules.specs.Liability.{liability}
use Rattle.ftd_rules.specs.Years.{year_last}
use Rattle.ftd_rules.specs.Private.Years.{semiweekly_from}
use Rattle.ftd_rules.specs.Private.Walk.{due_date, AreOwed, periods, period_first}
use Rattle.ftd_rules.proofs.Along.{upto, upto_within, cut_here}
use Rattle.ftd_buckets.specs.declared.Window.{Window}
use Rattle.ftd_buckets.specs.declared.state.Progress.{Progress}
use Rattle.ftd_buckets.specs.declared.state.Stage.TheVariants as stage
use Rattle.ftd_buckets.specs.Histories.{TurnsWithin}
use Rattle.ftd_buckets.specs.Ready.{Repairing, repairing, IsReady}
use Rattle.ftd_buckets.specs.Private.Ready.{with_turn, IsWhole}
use Rattle.ftd_buckets.proofs.Begun.{ready_line, line_read, read_to}
use Rattle.ftd_buckets.proofs.Onward.{same_line}
use Rattle.ftd_buckets.proofs.Turns.{line_year}
use Rattle.ftd_buckets.proofs.Split.{Split, split_turn, turning, open_first, whole_before}
use Rattle.ftd_buckets.proofs.Split.{rest_ready, turned_next}
use Rattle.ftd_buckets.proofs.state.Progress.feed_turned.Goals as goal

-- the first day of the last deposit period, under the turn
opens_on : (s : Progress) (turn : Option ℕ) → (h : IsReady (repairing s stage.Period))
    → (given : YearLine) (first semiweekly : ℕ) → first ≡ period_first s.form semiweekly s.asked.to
    → semiweekly ≡ semiweekly_from (with_turn (slice_index_or s.lines.now 0 given) turn)
    → first ≡ period_first s.form (semiweekly_from (with_turn h.line turn)) s.asked.to
opens_on s turn h given first semiweekly is from =
    is ∙ ap (λ z. period_first s.form z s.asked.to) (from
    ∙ ap (λ (z : YearLine). semiweekly_from (with_turn z turn))
    (line_read h given))

-- the sums up to a day, and those after it
cut_at : (sums front back : List DaySum) (before day count : ℕ) → before ≡ day
    → count ≡ upto before sums → front ≡ take count sums → back ≡ drop count sums
    → (front ≡ take (upto day sums) sums) × (back ≡ drop (upto day sums) sums)
cut_at sums front back before day count is counts in_front at_back =
    let same : count ≡ upto day sums = counts ∙ ap (λ z. upto z sums) is in
    (in_front ∙ ap (λ z. take z sums) same, at_back ∙ ap (λ z. drop z sums) same)

pub tomorrow-next-requires : goal.tomorrow-next-requires
tomorrow-next-requires c =
    omega (arith, (turning c.args.self c.args.turn c.requires.ready c.requires.within).late)

pub last_day-last-requires-clause-to : goal.last_day-last-requires-clause-to
last_day-last-requires-clause-to c = read_to c.requires.ready _

pub first_semiweekly_day-requires-clause-to : goal.first_semiweekly_day-requires-clause-to
first_semiweekly_day-requires-clause-to c = read_to c.requires.ready _

pub add_rows-requires-clause-to : goal.add_rows-requires-clause-to
add_rows-requires-clause-to c = read_to c.requires.ready _

pub first_semiweekly_day-requires-clause-turn : goal.first_semiweekly_day-requires-clause-turn
first_semiweekly_day-requires-clause-turn c =
    let h = c.requires.ready in
    let l = ready_line (repairing c.args.self stage.Period) h in
    let t = turning c.args.self c.args.turn h c.requires.within in
    (line_year (with_turn h.line c.args.turn) l.0 l.1
    (split_turn c.args.self.form h.line _ _ c.args.turn t.split)).2

pub period_of-requires-clause-early : goal.period_of-requires-clause-early
period_of-requires-clause-early c =
    let t = turning c.args.self c.args.turn c.requires.ready c.requires.within in
    omega (arith, t.early, t.some)

pub period_of-requires-clause-late : goal.period_of-requires-clause-late
period_of-requires-clause-late c =
    omega (arith, (turning c.args.self c.args.turn c.requires.ready c.requires.within).late)

pub yesterday-before-requires : goal.yesterday-before-requires
yesterday-before-requires c =
    let h = c.requires.ready in
    let s : Progress = c.args.self in
    let t = turning s c.args.turn h c.requires.within in
    let first = opens_on s c.args.turn h c.index-self-0.result _ _ c.period_of.ensures.first
    c.first_semiweekly_day.ensures.day in
    let w = open_first s.form h.line s.asked.from s.asked.to c.args.turn t.cut in
    omega (arith, first, w.0, t.early)

pub split_at-requires : goal.split_at-requires
split_at-requires c =
    let within = upto_within c.yesterday-before.result c.args.sums.now in
    let count = c.days_within.ensures in
    omega arith

pub add_rows-requires-clause-turn : goal.add_rows-requires-clause-turn
add_rows-requires-clause-turn c =
    let h = c.requires.ready in
    let s : Progress = c.args.self in
    let t = turning s c.args.turn h c.requires.within in
    subst (λ (z : YearLine). TurnsWithin (with_turn z c.args.turn))
    (sym (line_read h c.index-self-0.result))
    (split_turn s.form h.line s.asked.from s.asked.to c.args.turn t.split)

pub add_rows-requires-clause-whole : goal.add_rows-requires-clause-whole
add_rows-requires-clause-whole c =
    let h = c.requires.ready in
    let s : Progress = c.args.self in
    let t = turning s c.args.turn h c.requires.within in
    let first = opens_on s c.args.turn h c.index-self-0.result _ _ c.period_of.ensures.first
    c.first_semiweekly_day.ensures.day in
    let whole = whole_before s.form h.line s.asked.from s.asked.to c.period_of.result.first
    c.args.turn t.cut (omega (arith, t.early)) first in
    let W : ℕ → Type 0 = λ z. IsWhole s.form (with_turn h.line c.args.turn) s.asked.from z in
    subst (λ (z : YearLine). IsWhole s.form (with_turn z c.args.turn) s.asked.from
    c.yesterday-before.result)
    (sym (line_read h c.index-self-0.result))
    (subst W (sym c.yesterday-before.ensures) whole)

pub add_rows-requires-clause-rise : goal.add_rows-requires-clause-rise
add_rows-requires-clause-rise c =
    rw (c.split_at.ensures.front, c.days_within.ensures)
    (cut_here c.yesterday-before.result c.args.self.asked.from c.args.self.asked.to
    c.args.sums.now c.requires.rise)

pub need-requires : goal.need-requires
need-requires c =
    let h = c.requires.ready in
    let s : Progress = c.args.self in
    let t = turning s c.args.turn h c.requires.within in
    let first = opens_on s c.args.turn h c.index-self-0.result _ _ c.period_of.ensures.first
    c.first_semiweekly_day.ensures.day in
    let parts = cut_at c.args.sums.now _ _ _ _ _ c.yesterday-before.ensures c.days_within.ensures
    c.split_at.ensures.front c.split_at.ensures.back in
    let window : Window = record { from = s.asked.to + 1; to = year_last h.line.year } in
    let ready = rest_ready s.form h.line s.asked.from s.asked.to c.period_of.result.first
    c.args.turn window c.args.sums.now t.split t.cut (omega (arith, t.early))
    (c.requires.goes_on h.line h.later h.lines_are) first refl refl c.requires.rise in
    let held = c.in_ok-extend_from_slice.ensures.items
    ∙ (ap (λ z. z ++ c.split_at.result.1.now) h.at.1 ∙ parts.1) in
    let last : c.last_day-last.result ≡ year_last h.line.year = c.last_day-last.ensures
    ∙ ap (λ (z : YearLine). year_last z.year)
    (line_read h c.index-self-0.result) in
    record { ready = search (rules, ready, c.tomorrow-next.ensures, last, held) }

pub returns-clause-serves : goal.returns-clause-serves
returns-clause-serves c =
    let h = c.requires.ready in
    let s : Progress = c.args.self in
    let t = turning s c.args.turn h c.requires.within in
    let parts = cut_at c.args.sums.now _ _ _ _ _ c.yesterday-before.ensures c.days_within.ensures
    c.split_at.ensures.front c.split_at.ensures.back in
    λ day holidays before_it after st agree told.
    let line : h.line ≡ st.old = same_line s.lines.now h.line st.old h.later st.common.later
    h.lines_are st.common.lines_are in
    let is_old : slice_index_or s.lines.now 0 c.index-self-0.result ≡ st.old =
    line_read h c.index-self-0.result ∙ line in
    let rows = c.in_ok-add_rows.ensures.rows in
    let held = c.in_ok-extend_from_slice.ensures.items
    ∙ (ap (λ z. z ++ c.split_at.result.1.now) h.at.1 ∙ parts.1) in
    let last : c.last_day-last.result ≡ year_last st.old.year = c.last_day-last.ensures
    ∙ ap (λ (z : YearLine). year_last z.year) is_old in
    let split_old =
    subst (λ (z : YearLine). Split c.args.self.form z s.asked.from s.asked.to c.args.turn) line
    t.split in
    let on_old : s.asked.to < year_last st.old.year =
    subst (λ (z : YearLine). s.asked.to < year_last z.year) line
    (c.requires.goes_on h.line h.later h.lines_are) in
    let first_old =
    subst (λ (z : YearLine). c.period_of.result.first ≡ period_first c.args.self.form
    (semiweekly_from (with_turn z c.args.turn)) s.asked.to) line
    (opens_on s c.args.turn h c.index-self-0.result _ _ c.period_of.ensures.first
    c.first_semiweekly_day.ensures.day) in
    let owed_front = rw (parts.0, c.yesterday-before.ensures) at rows.2 in
    let owed_old = subst (λ (z : YearLine). AreOwed (due_date (holidays_of s.holidays.now))
    (liability (take (upto (c.period_of.result.first - 1) c.args.sums.now) c.args.sums.now))
    (periods c.args.self.form (semiweekly_from (with_turn z c.args.turn))) s.asked.from
    (c.period_of.result.first - 1 + 1) rows.0) is_old owed_front in
    let r : Repairing = record {
      form = c.args.self.form;
      lines = s.lines.now;
      holidays = holidays_of s.holidays.now;
      from = s.from;
      asked = record { from = c.tomorrow-next.result; to = c.last_day-last.result };
      rows = c.add_rows.new.rows.items;
      years = s.years.items;
      held = c.extend_from_slice.new.self.items;
      stage = stage.Rest c.period_of.result.first c.args.turn;
    } in
    rw c.need.ensures
    (turned_next c.args.self.form day holidays before_it after s c.args.turn c.args.sums.now rows.0
    c.period_of.result.first r c.end_before_2100.ensures st agree c.requires.rise split_old
    (omega (arith, t.early)) on_old told first_old owed_old
    refl st.calendar refl (λ i. record { from = c.tomorrow-next.ensures i; to = last i }) rows.1
    refl held refl)
