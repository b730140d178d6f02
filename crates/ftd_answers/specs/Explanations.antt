-- The deposit schedule of a day, and why an obligation is so, told in lines.
use Rattle.std.specs.Prelude.{ℕ, List, [], ◌∷◌, ◌++◌, codes, Option, None, Some}
use Rattle.std.specs.List.{concat, flat_map, join_with_byte}
use Rattle.ftd_days.specs.Text.{day_text}
use Rattle.ftd_rules.specs.declared.Kind.{Kind}
use Rattle.ftd_rules.specs.declared.Obligation.{Obligation}
use Rattle.ftd_rules.specs.Text.{rule_text}
use Rattle.ftd_machine.specs.declared.explained.CountedDay.{CountedDay}
use Rattle.ftd_machine.specs.declared.explained.DayKind.{DayKind}
use Rattle.ftd_machine.specs.declared.explained.DayKind.TheVariants.{Business, Saturday, Sunday}
use Rattle.ftd_machine.specs.declared.explained.DayKind.TheVariants.{Holiday}
use Rattle.ftd_machine.specs.declared.explained.Explanation.{Explanation}
use Rattle.ftd_machine.specs.declared.explained.RunningSum.{RunningSum}
use Rattle.ftd_machine.specs.declared.replies.Reason.{Reason}
use Rattle.ftd_machine.specs.declared.replies.Reason.TheVariants.{Lookback, Turned, Carried}
use Rattle.ftd_answers.specs.Columns.{space, line_end, left_in, amount_in}
use Rattle.ftd_answers.specs.Listings.{kind_name, payment_line}

-- ---- the deposit schedule of a day

-- why an account has it, and the day on which 100,000.00 was reached where that is why
abbrev pub reason_name : Reason → List ℕ
reason_name Lookback = codes "lookback"
reason_name (Turned turn) = codes "turned"
reason_name Carried = codes "carried"

abbrev pub turn_of : Reason → Option ℕ
turn_of Lookback = None
turn_of (Turned turn) = Some turn
turn_of Carried = None

-- `2024-05-11 semiweekly turned`, and the end of its line, with ` 2024-05-10` before it
abbrev pub reason_text : ℕ → Kind → Reason → List ℕ
reason_text day kind reason =
    concat (day_text day ∷ (space ∷ []) ∷ kind_name kind ∷ (space ∷ []) ∷ reason_name reason ∷ [])

abbrev pub reached_end : Option ℕ → List ℕ
reached_end None = codes "\n"
reached_end (Some turn) = concat ((space ∷ []) ∷ day_text turn ∷ codes "\n" ∷ [])

unfoldable pub status_text : ℕ → Kind → Reason → List ℕ
status_text day kind reason = reason_text day kind reason ++ reached_end (turn_of reason)

-- ---- the lines of an obligation

-- its first and last day, rule, amount and due date
unfoldable pub obligation_line : Obligation → List ℕ
obligation_line o =
    join_with_byte space (day_text o.first ∷ day_text o.last ∷ left_in 10 (rule_text o.rule)
    ∷ amount_in o.cents.0 ∷ day_text o.due ∷ [])
    ++ (line_end ∷ [])

-- a payday, its liability, and that of the days up to it
unfoldable pub payday_line : RunningSum → List ℕ
payday_line x =
    join_with_byte space (day_text x.day ∷ amount_in x.cents.0 ∷ amount_in x.total.0 ∷ [])
    ++ (line_end ∷ [])

-- a day that is counted to its due date, and what it is
abbrev pub day_kind_name : DayKind → List ℕ
day_kind_name Business = codes "business"
day_kind_name Saturday = codes "Saturday"
day_kind_name Sunday = codes "Sunday"
day_kind_name Holiday = codes "holiday"

abbrev pub counted_line : CountedDay → List ℕ
counted_line x =
    concat (day_text x.day ∷ (space ∷ []) ∷ day_kind_name x.kind ∷ (line_end ∷ []) ∷ [])

-- when the return is due
abbrev pub return_line : ℕ → List ℕ
return_line day = concat (codes "RETURN " ∷ day_text day ∷ (line_end ∷ []) ∷ [])

-- ---- the text

-- the obligation, and the schedule of its first day; its paydays and the days that are counted;
-- when the return is due, and the payments
unfoldable pub explanation_text : Explanation → List ℕ
explanation_text e =
    obligation_line e.obligation ++ (status_text e.obligation.first e.kind e.reason
    ++ ((codes "PAYDAYS\n" ++ flat_map payday_line e.paydays)
    ++ ((codes "DAYS\n" ++ flat_map counted_line e.days)
    ++ (return_line e.return_due
    ++ (codes "PAYMENTS\n" ++ flat_map payment_line e.payments)))))

-- the first line, which tells what was asked for
abbrev pub explanation_head : List ℕ → ℕ → List ℕ
explanation_head account day =
    concat (codes "OBLIGATION " ∷ account ∷ codes " " ∷ day_text day ∷ (line_end ∷ []) ∷ [])

-- what explains the obligation, if there is one
abbrev pub explained_text : Option Explanation → List ℕ
explained_text None = codes "none\n"
explained_text (Some e) = explanation_text e

unfoldable pub explanation_told : List ℕ → ℕ → Option Explanation → List ℕ
explanation_told account day explained = explanation_head account day ++ explained_text explained
