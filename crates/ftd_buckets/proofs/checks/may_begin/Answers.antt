use Rattle.std.proofs.Common.{arith, sym, ◌∙◌}
use Rattle.std.proofs.lemmas.Bool.{false≢true}
use Rattle.ftd_rules.proofs.Items.{head_item}
use Rattle.ftd_rules.proofs.Schedules.{years_head}
use Rattle.ftd_buckets.proofs.Begun.{begin_with}
use Rattle.ftd_buckets.proofs.checks.may_begin.Goals as goal

pub returns-else-is_in : goal.returns-else-is_in
returns-else-is_in c = (
  (λ h. absurd (false≢true (sym c.if-is_in.false ∙ h))),
  (λ m.
      let e = head_item c.args.lines.now _ c.in-len1-up.len_at_least c.first-item.is in
      let years = m.0 in
      let from = years.1 in
      let y = years_head years.0 c.args.lines.now _ _ e years.2 in
      let y0 = y.0 in let y1 = y.1 in
      let b = begin_with c.args.day c.args.lines.now _ m.2 e in
      c.is_in.ensures.1 (omega arith, omega arith, b.0, b.1)),
)
