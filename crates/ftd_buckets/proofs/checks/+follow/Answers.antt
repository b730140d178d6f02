use Rattle.std.proofs.Common.{List, sym, ◌∙◌, subst}
use Rattle.std.specs.Prelude.{All}
use Rattle.std.proofs.lemmas.Bool.{false≢true}
use Rattle.std.proofs.lemmas.List.Elements.{All-head}
use Rattle.ftd_rules.specs.declared.YearLine.{YearLine}
use Rattle.ftd_rules.proofs.Items.{head_item}
use Rattle.ftd_rules.proofs.Schedules.{years_head}
use Rattle.ftd_buckets.specs.Histories.{TurnsWithin}
use Rattle.ftd_buckets.proofs.checks.+follow.Goals as goal

pub returns-else-is_line_of : goal.returns-else-is_line_of
returns-else-is_line_of t c = (
  (λ h. absurd (false≢true (sym c.if-is_line_of.false ∙ h))),
  (λ m.
      let e = head_item c.args.lines.now _ c.in-len1-up.len_at_least c.line-item.is in
      let y = years_head c.args.year c.args.lines.now _ _ e m.0 in
      let turns = subst (λ (z : List YearLine). All TurnsWithin z) e m.1 in
      c.is_line_of.ensures.1 (y.0, y.1, All-head TurnsWithin _ _ turns)),
)
