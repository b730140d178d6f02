use Rattle.std.proofs.Common.{◌≡◌, ◌≤◌, ◌+◌, ℕ, List, sym, ◌∙◌, subst, slice_index_or}
use Rattle.std.specs.List.{sum_by}
use Rattle.std.specs.Prelude.{Option, Result, IfOk}
use Rattle.ftd_days.specs.Holidays.{holidays_of}
use Rattle.ftd_rules.specs.Periods.{IsPeriod}
use Rattle.ftd_rules.specs.declared.DaySum.{DaySum}
use Rattle.ftd_rules.specs.declared.YearLine.{YearLine}
use Rattle.ftd_rules.specs.Liability.{liability, cents_of}
use Rattle.ftd_rules.specs.Private.Years.{semiweekly_from}
use Rattle.ftd_rules.specs.Private.Walk.{due_date, AreOwed, periods}
use Rattle.ftd_buckets.specs.declared.state.Progress.{Progress}
use Rattle.ftd_buckets.specs.declared.state.Stage.TheVariants as stage
use Rattle.ftd_buckets.specs.declared.state.Next.{Next}
use Rattle.ftd_buckets.specs.declared.turn.TurnNow.{TurnNow}
use Rattle.ftd_buckets.specs.declared.turn.TurnNow.TheVariants as now
use Rattle.ftd_buckets.specs.Histories.{History}
use Rattle.ftd_buckets.specs.Patches.{AreSumsOf}
use Rattle.ftd_buckets.specs.Ready.{repairing, IsReady}
use Rattle.ftd_buckets.specs.Private.Ready.{IsWhole}
use Rattle.ftd_buckets.specs.Private.Turned.{IsYearChange, IsTurnNow}
use Rattle.ftd_buckets.specs.Standing.{Stands}
use Rattle.ftd_buckets.specs.Private.Answered.{Answers, Serves, Holds}
use Rattle.ftd_buckets.proofs.Begun.{line_read, read_to}
use Rattle.ftd_buckets.proofs.Onward.{same_line}
use Rattle.ftd_buckets.proofs.Chain.{year_change}
use Rattle.ftd_buckets.proofs.Split.{ready_whole, read_whole}
use Rattle.ftd_buckets.proofs.Fed.{if_ok2}
use Rattle.ftd_buckets.proofs.Kept.{kept_done}
use Rattle.ftd_buckets.proofs.state.Progress.feed_period.Goals as goal

-- what is told of the turn, for the histories
abbrev Tells : Progress → List DaySum → YearLine → TurnNow → Type 0
Tells s sums line result = (before after : ℕ → ℕ → ℕ) (day : ℕ) (new : YearLine)
    → IsYearChange before after day line new → s.asked.from ≤ day → day ≤ s.asked.to
    → ((a b : ℕ) → s.asked.from ≤ a → b ≤ s.asked.to → after a b ≡ liability sums a b)
    → IsTurnNow line new s.asked.to result

told : (s : Progress) (sums : List DaySum) (line : YearLine) (result : TurnNow)
    → Tells s sums line result
    → (day : ℕ) (holidays : List ℕ) (before after : History)
    → (st : Stands s.form day holidays before after (repairing s stage.Period))
    → AreSumsOf after s.asked sums → line ≡ st.old
    → IsTurnNow st.old st.new s.asked.to result
told s sums line result h day holidays before after st agree e =
    let change = year_change day before after st.common.change st.old st.new st.common.year.is_old
    st.common.year.is_new st.common.year.same st.at.of_day.0 st.at.of_day.1 in
    let mine = subst (λ (z : YearLine). IsYearChange (liability before.sums) (liability after.sums)
    day z st.new) (sym e) change in
    subst (λ (z : YearLine). IsTurnNow z st.new s.asked.to result) e
    (h (liability before.sums) (liability after.sums) day st.new mine st.at.asked.1 st.at.asked.2
    agree)

-- where the turn differs, what serves under it answers
turned : {E : Type 0} (s : Progress) (sums : List DaySum) (given : YearLine) (turn : Option ℕ)
    (answer : Result Next E) → (h : IsReady (repairing s stage.Period)) → given ≡ h.line
    → Tells s sums given (now.Changed turn)
    → IfOk answer (Holds s.form (sum_by cents_of s.held.items + sum_by cents_of sums))
    → IfOk answer (λ next. (day : ℕ) (holidays : List ℕ) (before after : History)
    → (st : Stands s.form day holidays before after (repairing s stage.Period))
    → AreSumsOf after s.asked sums → IsTurnNow st.old st.new s.asked.to (now.Changed turn)
    → Serves s.form day holidays before after s.asked next)
    → IfOk answer (Answers (repairing s stage.Period) sums)
turned s sums given turn answer h x now_is =
    if_ok2 (Holds s.form (sum_by cents_of s.held.items + sum_by cents_of sums))
    (λ (next : Next). (day : ℕ) (holidays : List ℕ) (before after : History)
    → (st : Stands s.form day holidays before after (repairing s stage.Period))
    → AreSumsOf after s.asked sums → IsTurnNow st.old st.new s.asked.to (now.Changed turn)
    → Serves s.form day holidays before after s.asked next)
    (Answers (repairing s stage.Period) sums) answer
    (λ next holds serves. record {
      holds = holds;
      serves = λ day holidays before after st agree.
          let line : h.line ≡ st.old = same_line s.lines.now h.line st.old h.later st.common.later
          h.lines_are st.common.lines_are in
          serves day holidays before after st agree
          (told s sums given (now.Changed turn) now_is day holidays before after st agree
          (x ∙ line));
    })

pub turn_now-requires-clause-to : goal.turn_now-requires-clause-to
turn_now-requires-clause-to c = read_to c.requires.ready _

pub add_rows-requires-clause-to : goal.add_rows-requires-clause-to
add_rows-requires-clause-to c = read_to c.requires.ready _

pub last_day-requires-clause-to : goal.last_day-requires-clause-to
last_day-requires-clause-to c = read_to c.requires.ready _

pub add_rows-requires-clause-whole : goal.add_rows-requires-clause-whole
add_rows-requires-clause-whole c = read_whole c.args.self c.requires.ready _

pub returns-in_ok-add_rows-in-Kept : goal.returns-in_ok-add_rows-in-Kept
returns-in_ok-add_rows-in-Kept c =
    let h = c.requires.ready in
    let s : Progress = c.args.self in
    let sums = c.args.sums.now in
    let rows = c.in_ok-add_rows-in-Kept.ensures.rows in
    record {
      holds = tt;
      serves = λ day holidays before after st agree.
          let line : h.line ≡ st.old = same_line s.lines.now h.line st.old h.later st.common.later
          h.lines_are st.common.lines_are in
          let is_old : slice_index_or s.lines.now 0 c.index-self-0.result ≡ st.old =
          line_read h c.index-self-0.result ∙ line in
          let told_now = told s sums (slice_index_or s.lines.now 0 c.index-self-0.result) now.Kept
          c.in-Kept.ensures.now day holidays before after st agree is_old in
          let whole_old =
          subst (λ (z : YearLine). IsWhole c.args.self.form z s.asked.from s.asked.to) line
          (ready_whole s h) in
          let owed_old = subst (λ (z : YearLine). AreOwed (due_date (holidays_of s.holidays.now))
          (liability sums) (periods c.args.self.form (semiweekly_from z)) s.asked.from
          (s.asked.to + 1) rows.0) is_old rows.2 in
          kept_done c.args.self.form day holidays before after s sums rows.0 c.patch.result
          c.in_ok-add_rows-in-Kept.ensures.known st agree whole_old told_now owed_old
          c.patch.ensures.from c.patch.ensures.to (c.patch.ensures.rows ∙ rows.1)
          c.patch.ensures.years;
    }

pub returns-in-Changed : goal.returns-in-Changed
returns-in-Changed c =
    turned c.args.self c.args.sums.now _ c.in-Changed.turn c.feed_turned_last.result
    c.requires.ready (line_read c.requires.ready c.index-self-0.result) c.in-Changed.ensures.now
    c.feed_turned_last.ensures.holds c.feed_turned_last.ensures.serves

pub returns-in-Changed-2 : goal.returns-in-Changed-2
returns-in-Changed-2 c =
    turned c.args.self c.args.sums.now _ c.in-Changed.turn c.feed_turned.result
    c.requires.ready (line_read c.requires.ready c.index-self-0.result) c.in-Changed.ensures.now
    c.feed_turned.ensures.holds c.feed_turned.ensures.serves

pub turn_now-requires-clause-period : goal.turn_now-requires-clause-period
turn_now-requires-clause-period c =
    let h = c.requires.ready in
    let s : Progress = c.args.self in (
      s.form,
      subst (λ (z : YearLine). IsPeriod s.form z s.asked.from s.asked.to)
          (sym (line_read h c.index-self-0.result)) h.at.0,
    )
