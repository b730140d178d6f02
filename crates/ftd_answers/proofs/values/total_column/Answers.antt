use Rattle.std.proofs.Common.{◌≤◌, ◌-◌, ℕ, List, length, ap, ◌∙◌, arith}
use Rattle.std.proofs.lemmas.List.{take-replicate}
use Rattle.ftd_answers.proofs.LineFacts.{amount_parts}
use Rattle.ftd_answers.proofs.values.total_column.Goals as goal

pub returns : goal.returns
returns c =
    let within : c.saturating_sub.result ≤ 14 = omega arith in
    let width = c.saturating_sub.ensures ∙ ap (λ (z : List ℕ). 14 - length z)
    c.amount_text-amount.ensures.dollars in
    rw (c.amount_text-amount.ensures.dollars, c.amount_text-amount.ensures.cents)
    (amount_parts c.args.total c.saturating_sub.result _ width
    (take-replicate c.saturating_sub.result 14 32 within))
