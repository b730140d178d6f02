use Rattle.std.proofs.Common.{arith, ◌≡◌, ◌+◌, ℕ, List, ◌++◌, refl, sym, ◌∙◌, ap, subst}
use Rattle.std.proofs.Common.{slice_index_or}
use Rattle.std.specs.List.{sum_by}
use Rattle.std.specs.Prelude.{Option, Some, MatchOption}
use Rattle.ftd_rules.specs.declared.YearLine.{YearLine}
use Rattle.ftd_rules.specs.declared.DaySum.{DaySum}
use Rattle.std.proofs.lemmas.List.Sums.{sum_by-append}
use Rattle.ftd_days.specs.Holidays.{holidays_of}
use Rattle.ftd_rules.specs.Liability.{liability, cents_of, SumsRise}
use Rattle.ftd_rules.specs.Years.{IsTurnOf}
use Rattle.ftd_rules.specs.Private.Walk.{due_date, AreOwed, periods}
use Rattle.ftd_rules.specs.Private.Years.{semiweekly_from}
use Rattle.ftd_buckets.specs.declared.state.Progress.{Progress}
use Rattle.ftd_buckets.specs.declared.state.Stage.TheVariants as stage
use Rattle.ftd_buckets.specs.declared.state.Next.{Next}
use Rattle.ftd_buckets.specs.Histories.{History, TurnsWithin}
use Rattle.ftd_buckets.specs.Ready.{repairing, IsReady}
use Rattle.ftd_buckets.specs.Private.Ready.{with_turn, IsWhole}
use Rattle.ftd_buckets.specs.Private.Answered.{Answers, Serves, Holds, IsSettledYear}
use Rattle.ftd_buckets.proofs.Begun.{ready_line, line_read, read_to}
use Rattle.ftd_buckets.proofs.Onward.{same_line}
use Rattle.ftd_buckets.proofs.Fed.{if_ok2, holds_more}
use Rattle.ftd_buckets.proofs.Rest.{Found, all_rise, rest_turn, rest_whole, rest_settled}
use Rattle.ftd_buckets.proofs.state.Progress.feed_rest.Goals as goal

-- the sums that are held by then rise from the first day of the open period
held_rise : (s : Progress) (first : ℕ) (turn : Option ℕ) (sums : List DaySum)
    → IsReady (repairing s (stage.Rest first turn)) → SumsRise s.asked.from s.asked.to sums
    → SumsRise first s.asked.to (s.held.items ++ sums)
held_rise s first turn sums h rise =
    let l = ready_line (repairing s (stage.Rest first turn)) h in
    all_rise s.form h.line s.asked s.held.items first turn sums l.0 l.1 h.at rise

-- and tell of the turn
found_in : (s : Progress) (first : ℕ) (turn now : Option ℕ) (sums read : List DaySum)
    → (h : IsReady (repairing s (stage.Rest first turn))) → read ≡ s.held.items ++ sums
    → MatchOption turn (IsTurnOf (liability read) first s.asked.to now) (λ t. now ≡ Some t)
    → Found s.form h.line s.asked s.held.items first turn (s.held.items ++ sums) now
found_in s first turn now sums read h same is =
    let l = ready_line (repairing s (stage.Rest first turn)) h in
    record { begin = l.0; end = l.1; ready = h.at; now_is = rw same at is }

pub add_rows-requires-clause-to : goal.add_rows-requires-clause-to
add_rows-requires-clause-to c = read_to c.requires.ready _

pub turn_from-turn-requires-clause-rise : goal.turn_from-turn-requires-clause-rise
turn_from-turn-requires-clause-rise c =
    rw (c.deref.ensures.value, c.in_ok-extend_from_slice.ensures.items)
    (held_rise c.args.self c.args.first c.args.turn c.args.sums.now c.requires.ready
    c.requires.rise)

pub add_rows-requires-clause-rise : goal.add_rows-requires-clause-rise
add_rows-requires-clause-rise c =
    rw (c.deref-2.ensures.value, c.in_ok-extend_from_slice.ensures.items)
    (held_rise c.args.self c.args.first c.args.turn c.args.sums.now c.requires.ready
    c.requires.rise)

pub add_rows-requires-clause-turn : goal.add_rows-requires-clause-turn
add_rows-requires-clause-turn c =
    let found = found_in c.args.self c.args.first c.args.turn c.turn_from-turn.result
    c.args.sums.now _ c.requires.ready
    (c.deref.ensures.value ∙ c.in_ok-extend_from_slice.ensures.items) c.turn_from-turn.ensures in
    subst (λ (z : YearLine). TurnsWithin (with_turn z c.turn_from-turn.result))
    (sym (line_read c.requires.ready c.index-self-0.result)) (rest_turn _ _ _ _ _ _ _ _ found)

pub add_rows-requires-clause-whole : goal.add_rows-requires-clause-whole
add_rows-requires-clause-whole c =
    let found = found_in c.args.self c.args.first c.args.turn c.turn_from-turn.result
    c.args.sums.now _ c.requires.ready
    (c.deref.ensures.value ∙ c.in_ok-extend_from_slice.ensures.items) c.turn_from-turn.ensures in
    subst (λ (z : YearLine). IsWhole c.args.self.form (with_turn z c.turn_from-turn.result)
    c.args.first c.args.self.asked.to)
    (sym (line_read c.requires.ready c.index-self-0.result)) (rest_whole _ _ _ _ _ _ _ _ found)

pub returns : goal.returns
returns c =
    let h = c.requires.ready in
    let s : Progress = c.args.self in
    let sums = c.args.sums.now in
    let all : List DaySum = s.held.items ++ sums in
    let now = c.turn_from-turn.result in
    let same2 : c.deref-2.result.now ≡ all = c.deref-2.ensures.value
    ∙ c.in_ok-extend_from_slice.ensures.items in
    let found = found_in s c.args.first c.args.turn now sums _ h
    (c.deref.ensures.value ∙ c.in_ok-extend_from_slice.ensures.items) c.turn_from-turn.ensures in
    let given_line : YearLine = slice_index_or s.lines.now 0 c.index-self-0.result in
    let rows = c.in_ok-add_rows.ensures.rows in
    let owed = rw same2 at rows.2 in
    let held_now : sum_by cents_of c.extend_from_slice.new.self.items ≡ sum_by cents_of s.held.items
    + sum_by cents_of sums =
    ap (sum_by cents_of) c.in_ok-extend_from_slice.ensures.items
    ∙ sum_by-append cents_of s.held.items sums in
    let t : Progress =
    record s { rows = c.add_rows.new.rows; held = c.extend_from_slice.new.self } in
    if_ok2 (Holds c.args.self.form (sum_by cents_of c.extend_from_slice.new.self.items))
    (λ (next : Next). (day : ℕ) (holidays : List ℕ) (before after : History)
    → IsSettledYear c.args.self.form day holidays before after t (with_turn given_line now)
    → Serves c.args.self.form day holidays before after s.asked next)
    (Answers (repairing s (stage.Rest c.args.first c.args.turn)) sums) c.after_year.result
    (λ next holds serves. record {
      holds = holds_more c.args.self.form (sum_by cents_of c.extend_from_slice.new.self.items)
          (sum_by cents_of s.held.items + sum_by cents_of sums) next (omega arith) holds;
      serves = λ day holidays before after st agree.
          let line : h.line ≡ st.old = same_line s.lines.now h.line st.old h.later st.common.later
          h.lines_are st.common.lines_are in
          let is_old : given_line ≡ st.old =
          line_read h c.index-self-0.result
          ∙ line in
          let found_old =
          subst (λ (z : YearLine). Found c.args.self.form z s.asked s.held.items c.args.first
          c.args.turn all now) line found in
          let owed_old = subst (λ (z : YearLine). AreOwed (due_date (holidays_of s.holidays.now))
          (liability all) (periods c.args.self.form (semiweekly_from (with_turn z now)))
          c.args.first (s.asked.to + 1) rows.0) is_old owed in
          let settled = rest_settled c.args.self.form day holidays before after s t c.args.first
          c.args.turn now sums rows.0 c.end_before_2100.ensures st agree c.requires.rise found_old
          owed_old refl refl refl refl rows.1 in
          serves day holidays before after
          (subst (λ (z : YearLine). IsSettledYear c.args.self.form day holidays before after t
          (with_turn z now)) (sym is_old) settled);
    }) c.after_year.ensures.holds c.after_year.ensures.serves
