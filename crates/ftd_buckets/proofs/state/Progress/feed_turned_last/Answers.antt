use Rattle.std.proofs.Common.{◌≡◌, ◌+◌, ℕ, List, refl, sym, ◌∙◌, ap, subst, slice_index_or}
use Rattle.ftd_rules.specs.declared.YearLine.{YearLine}
use Rattle.ftd_buckets.specs.declared.state.Progress.{Progress}
use Rattle.ftd_buckets.specs.declared.state.Stage.TheVariants as stage
use Rattle.ftd_buckets.specs.Histories.{History, TurnsWithin}
use Rattle.ftd_buckets.specs.Ready.{repairing}
use Rattle.ftd_buckets.specs.Private.Ready.{with_turn, IsWhole}
use Rattle.ftd_buckets.proofs.Begun.{line_read, read_to}
use Rattle.std.specs.Prelude.{⊤}
use Rattle.ftd_days.specs.Holidays.{holidays_of}
use Rattle.ftd_rules.specs.Liability.{liability}
use Rattle.ftd_rules.specs.Years.{year_last}
use Rattle.ftd_rules.specs.Private.Years.{semiweekly_from}
use Rattle.ftd_rules.specs.Private.Walk.{due_date, AreOwed, periods}
use Rattle.ftd_buckets.specs.declared.state.Next.{Next}
use Rattle.ftd_buckets.specs.declared.turn.TurnNow.TheVariants as now
use Rattle.ftd_buckets.specs.Patches.{AreSumsOf}
use Rattle.ftd_buckets.specs.Private.Turned.{IsTurnNow}
use Rattle.ftd_buckets.specs.Standing.{Stands}
use Rattle.ftd_buckets.specs.Private.Answered.{Serves, IsSettledYear}
use Rattle.ftd_buckets.proofs.Onward.{same_line}
use Rattle.ftd_buckets.proofs.Fed.{if_ok2, if_ok_true}
use Rattle.ftd_buckets.proofs.Split.{split_turn, turning, whole_last, last_settled}
use Rattle.ftd_buckets.proofs.state.Progress.feed_turned_last.Goals as goal

pub add_rows-requires-clause-to : goal.add_rows-requires-clause-to
add_rows-requires-clause-to c = read_to c.requires.ready _

pub add_rows-requires-clause-turn : goal.add_rows-requires-clause-turn
add_rows-requires-clause-turn c =
    let h = c.requires.ready in
    let s : Progress = c.args.self in
    subst (λ (z : YearLine). TurnsWithin (with_turn z c.args.turn))
    (sym (line_read h c.index-self-0.result))
    (split_turn s.form h.line s.asked.from s.asked.to c.args.turn
    (turning s c.args.turn h c.requires.within).split)

pub add_rows-requires-clause-whole : goal.add_rows-requires-clause-whole
add_rows-requires-clause-whole c =
    let h = c.requires.ready in
    let s : Progress = c.args.self in
    subst (λ (z : YearLine). IsWhole s.form (with_turn z c.args.turn) s.asked.from s.asked.to)
    (sym (line_read h c.index-self-0.result))
    (whole_last s.form h.line s.asked.from s.asked.to c.args.turn
    (turning s c.args.turn h c.requires.within).cut (c.requires.last h.line h.later h.lines_are))

pub returns-clause-serves : goal.returns-clause-serves
returns-clause-serves c =
    let h = c.requires.ready in
    let s : Progress = c.args.self in
    let sums = c.args.sums.now in
    let ends = c.requires.last h.line h.later h.lines_are in
    let whole = whole_last s.form h.line s.asked.from s.asked.to c.args.turn
    (turning s c.args.turn h c.requires.within).cut ends in
    let given_line : YearLine = slice_index_or s.lines.now 0 c.index-self-0.result in
    let rows = c.in_ok-add_rows.ensures.rows in
    let t : Progress = record s { rows = c.add_rows.new.rows } in
    if_ok2 (λ (next : Next). ⊤)
    (λ (next : Next). (day : ℕ) (holidays : List ℕ) (before after : History)
    → IsSettledYear c.args.self.form day holidays before after t (with_turn given_line c.args.turn)
    → Serves c.args.self.form day holidays before after s.asked next)
    (λ (next : Next). (day : ℕ) (holidays : List ℕ) (before after : History)
    → (st : Stands c.args.self.form day holidays before after (repairing s stage.Period))
    → AreSumsOf after s.asked sums
    → IsTurnNow st.old st.new s.asked.to (now.Changed c.args.turn)
    → Serves c.args.self.form day holidays before after s.asked next) c.after_year.result
    (λ next nothing serves. λ day holidays before after st agree told.
    (let line : h.line ≡ st.old = same_line s.lines.now h.line st.old h.later st.common.later
    h.lines_are st.common.lines_are in
    let is_old : given_line ≡ st.old =
    line_read h c.index-self-0.result ∙ line in
    let ends_old : s.asked.to ≡ year_last st.old.year = ends
    ∙ ap (λ (z : YearLine). year_last z.year) line in
    let whole_old =
    subst (λ (z : YearLine). IsWhole c.args.self.form (with_turn z c.args.turn) s.asked.from
    s.asked.to) line whole in
    let owed_old = subst (λ (z : YearLine). AreOwed (due_date (holidays_of s.holidays.now))
    (liability sums) (periods c.args.self.form (semiweekly_from (with_turn z c.args.turn)))
    s.asked.from (s.asked.to + 1) rows.0) is_old rows.2 in
    let settled = last_settled c.args.self.form day holidays before after s t c.args.turn sums
    rows.0 c.end_before_2100.ensures st agree ends_old whole_old told owed_old refl refl refl refl
    rows.1 in
    serves day holidays before after
    (subst (λ (z : YearLine). IsSettledYear c.args.self.form day holidays before after t
    (with_turn z c.args.turn)) (sym is_old) settled)))
    (if_ok_true c.after_year.result) c.after_year.ensures.serves
