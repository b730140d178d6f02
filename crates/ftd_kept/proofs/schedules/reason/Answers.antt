use Rattle.std.proofs.Common.{◌≡◌, ◌<◌, ◌⊎◌, true, None, inl, inr, refl, rules, arith}
use Rattle.ftd_rules.specs.declared.Kind.TheVariants.{Monthly}
use Rattle.ftd_machine.specs.Asking.{HasNoTurnBefore}
use Rattle.ftd_kept.proofs.Scheduling.{carried_why}
use Rattle.ftd_kept.proofs.schedules.reason.Goals as goal
use Rattle.ftd_kept.proofs.schedules.reason.Goals.{in_default-turn-via-in-Some-turn+else-not-line}
use Rattle.ftd_kept.proofs.schedules.reason.Goals.{in_default-turn-via-in_default-turn}

pub returns-in_default-turn : goal.returns-in_default-turn
returns-in_default-turn c = λ day L schedule status.
    let lines = c.args.lines.now in
    let line = c.args.line.now in
    let semiweekly : c.args.kind ≡ Monthly → ⊥ = search (rules, c.if-eq.false, c.eq.ensures) in
    let little : 5_000_000 < line.lookback.0 → ⊥ = λ much. (let less = c.if-line-gt-MONTHLY_LIMIT.false in
    omega (arith, less)) in
    let none : HasNoTurnBefore lines line = c.in_default.ensures line refl in
    let either : (line.carried ≡ true) ⊎ (line.turn ≡ None) = elim c.in_default-turn.branch [
      | in_default-turn-via-in-Some-turn+else-not-line w ↦ inl (search rules)
      | in_default-turn-via-in_default-turn w ↦ inr (search rules)
    ] in
    carried_why lines line c.args.kind day L semiweekly little none either schedule status
