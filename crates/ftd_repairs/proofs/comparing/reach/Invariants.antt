use Rattle.std.proofs.Common.{take, ◌≡◌, ◌≤◌}
use Rattle.ftd_rules.specs.declared.Obligation.{Obligation}
use Rattle.ftd_rules.specs.Lists.{Has}
use Rattle.ftd_repairs.proofs.comparing.reach.Given as goal

abbrev pub invariant-loop-row : goal.invariant-loop-row
invariant-loop-row l = record {
  first : (o : Obligation) × Has l.rows o × (l.from ≡ o.first);
  last : (o : Obligation) × Has l.rows o × (l.to ≡ o.last);
  within : (o : Obligation) → Has (take l.row-index l.rows) o → (l.from ≤ o.first)
      × (o.last ≤ l.to);
}
