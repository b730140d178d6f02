use Rattle.std.proofs.Common.{arith, ◌≡◌, ◌+◌, ℕ, List, refl, ◌∙◌, ap}
use Rattle.std.specs.List.{sum_by}
use Rattle.ftd_rules.specs.declared.YearLine.{YearLine}
use Rattle.ftd_rules.specs.Liability.{cents_of}
use Rattle.ftd_rules.specs.Years.{basis_of}
use Rattle.ftd_buckets.specs.declared.state.Progress.{Progress}
use Rattle.ftd_buckets.specs.declared.state.Stage.TheVariants as stage
use Rattle.ftd_buckets.specs.declared.state.Next.{Next}
use Rattle.ftd_buckets.specs.Histories.{History}
use Rattle.ftd_buckets.specs.Ready.{repairing}
use Rattle.ftd_buckets.specs.Private.Answered.{Answers, Serves, Holds, IsSettledYear}
use Rattle.ftd_buckets.proofs.Begun.{line_read, read_to}
use Rattle.ftd_buckets.proofs.Onward.{same_line}
use Rattle.ftd_buckets.proofs.Fed.{if_ok2, holds_more, year_settled}
use Rattle.ftd_buckets.proofs.state.Progress.feed_year.Goals as goal

pub add_year-requires-clause-to : goal.add_year-requires-clause-to
add_year-requires-clause-to c = read_to c.requires.ready _

pub returns : goal.returns
returns c =
    let s : Progress = c.args.self in
    let sums = c.args.sums.now in
    let h = c.requires.ready in
    let x = line_read h c.index-self-0.result in
    let new : YearLine = c.in_ok-new.new in
    let rows = c.in_ok-new.ensures.rows in
    let t : Progress = record s { rows = c.add_year.new.rows } in
    if_ok2 (Holds c.args.self.form (sum_by cents_of s.held.items))
    (λ (next : Next). (day : ℕ) (holidays : List ℕ) (before after : History)
    → IsSettledYear c.args.self.form day holidays before after t new
    → Serves c.args.self.form day holidays before after s.asked next)
    (Answers (repairing s (stage.Year c.args.turned)) sums) c.after_year.result
    (λ next holds serves. record {
      holds = holds_more c.args.self.form (sum_by cents_of s.held.items)
          (sum_by cents_of s.held.items + sum_by cents_of sums) next (omega arith) holds;
      serves = λ day holidays before after st agree.
          let line : h.line ≡ st.old = same_line s.lines.now h.line st.old h.later st.common.later
          h.lines_are st.common.lines_are in
          let basis_is : basis_of new ≡ basis_of st.old = c.in_ok-new.ensures.basis
          ∙ (ap basis_of x ∙ ap basis_of line) in
          serves day holidays before after
          (year_settled c.args.self.form day holidays before after s t c.args.turned sums new rows.0
          c.end_before_2100.ensures st agree basis_is
          c.in_ok-new.ensures.schedule rows.2 refl refl refl refl rows.1);
    }) c.after_year.ensures.holds c.after_year.ensures.serves
