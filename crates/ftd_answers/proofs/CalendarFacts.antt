-- The pieces of an event, joined.
use Rattle.std.proofs.Common.{◌≡◌, ℕ, List, [], ◌∷◌, ◌++◌, refl, ap, ◌∙◌, append_assoc}
use Rattle.std.specs.Prelude.{codes, ◌/◌}
use Rattle.std.specs.Fmt.{decimal}
use Rattle.ftd_days.specs.Digits.{two_digits}
use Rattle.ftd_days.specs.Text.{point, day_text}
use Rattle.ftd_rules.specs.Text.{rule_text}
use Rattle.ftd_rules.specs.Verdicts.{verdict_text}
use Rattle.std.specs.List.{concat}
use Rattle.ftd_machine.specs.declared.lists.AgendaRow.{AgendaRow}
use Rattle.ftd_answers.specs.Calendars.{event_text, event_owner, event_deposit, crlf}
use Rattle.ftd_answers.specs.Calendars.{condition_of}
use Rattle.ftd_answers.specs.Agendas.{left_cents}

-- an amount's two pieces, and what follows
joins : (d c others line : List ℕ) → others ≡ line → (d ++ c) ++ others ≡ d ++ (c ++ line)
joins d c others line e = append_assoc d c others ∙ ap (λ z. d ++ (c ++ z)) e

-- the lines of an event are what is written up to the rule and from it on
pub event_parts : (as_of : ℕ) (x : AgendaRow)
    → event_text as_of x ≡ event_owner as_of x ++ event_deposit x
unfolding event_text event_owner event_deposit
event_parts as_of x = simp append_assoc

-- what is written from the rule on
pub event_deposit_parts : (x : AgendaRow) → event_deposit x
    ≡ concat (rule_text x.row.obligation.rule ∷ codes " " ∷ decimal (left_cents x / 100)
    ∷ (point ∷ two_digits (left_cents x)) ∷ (crlf ++ codes "DESCRIPTION:")
    ∷ day_text x.row.obligation.first ∷ codes " to " ∷ day_text x.row.obligation.last
    ∷ codes "\\, pay by " ∷ day_text x.pay_by ∷ codes "\\, " ∷ verdict_text x.row.verdict
    ∷ condition_of x ∷ (crlf ++ codes "END:VEVENT" ++ crlf) ∷ [])
unfolding event_deposit
event_deposit_parts x = ap (λ z. rule_text x.row.obligation.rule ++ (32 ∷ z))
    (joins (decimal (left_cents x / 100)) (point ∷ two_digits (left_cents x)) _ _ refl)
