-- Why an obligation is so, as JSON, and in a format.
use Rattle.std.specs.Prelude.{ℕ, List, [], ◌∷◌, ◌++◌, codes, map, Option, None, Some}
use Rattle.std.specs.List.{concat}
use Rattle.ftd_days.specs.Text.{cents_text, day_text}
use Rattle.ftd_rules.specs.declared.Kind.{Kind}
use Rattle.ftd_rules.specs.declared.Obligation.{Obligation}
use Rattle.ftd_rules.specs.Text.{rule_text}
use Rattle.ftd_machine.specs.declared.explained.CountedDay.{CountedDay}
use Rattle.ftd_machine.specs.declared.explained.Explanation.{Explanation}
use Rattle.ftd_machine.specs.declared.facts.ExplainedDay.{ExplainedDay}
use Rattle.ftd_machine.specs.declared.explained.RunningSum.{RunningSum}
use Rattle.ftd_machine.specs.declared.replies.Reason.{Reason}
use Rattle.ftd_answers.specs.Columns.{line_end}
use Rattle.ftd_answers.specs.Fields.{Field, Told, array_of, as_cents, as_day, as_text, both}
use Rattle.ftd_answers.specs.Fields.{field_of, member, members_of, object_of, object_told, or_none}
use Rattle.ftd_answers.specs.Fields.{quoted, text_field, told_by}
use Rattle.ftd_answers.specs.declared.formats.Format.{Format}
use Rattle.ftd_answers.specs.declared.formats.Format.TheVariants.{List as Listed, Calendar}
use Rattle.ftd_answers.specs.declared.formats.ListFormat.TheVariants.{Text, Csv, Json}
use Rattle.ftd_answers.specs.Explanations.{day_kind_name, explanation_told, reason_name, turn_of}
use Rattle.ftd_answers.specs.KeptForms.{payment_object}
use Rattle.ftd_answers.specs.Listings.{kind_name}

-- ---- the fields of a part

-- an obligation: its first and last day, rule, amount and due date
abbrev pub obligation_fields : Obligation → List Told
obligation_fields o =
    text_field (codes "first") (day_text o.first) ∷ text_field (codes "last") (day_text o.last)
    ∷ text_field (codes "rule") (rule_text o.rule)
    ∷ text_field (codes "amount") (cents_text o.cents.0)
    ∷ text_field (codes "due") (day_text o.due) ∷ []

-- the deposit schedule of a day, why, and the day on which 100,000.00 was reached
abbrev pub status_fields : ℕ → Kind → Reason → List Told
status_fields day kind reason =
    text_field (codes "day") (day_text day) ∷ text_field (codes "kind") (kind_name kind)
    ∷ text_field (codes "reason") (reason_name reason)
    ∷ field_of (codes "turn") (or_none as_day (turn_of reason)) ∷ []

-- a payday, its liability, and that of the days up to it
abbrev pub payday_fields : List (Field RunningSum)
payday_fields =
    both (codes "day") (λ x. as_day x.day) ∷ both (codes "amount") (λ x. as_cents x.cents.0)
    ∷ both (codes "total") (λ x. as_cents x.total.0) ∷ []

-- a day that is counted to the due date, and what it is
abbrev pub counted_fields : List (Field CountedDay)
counted_fields =
    both (codes "day") (λ x. as_day x.day)
    ∷ both (codes "is") (λ x. as_text (day_kind_name x.kind)) ∷ []

-- ---- JSON

-- what was asked for
abbrev pub asked_fields : List ℕ → ℕ → List Told
asked_fields account day =
    text_field (codes "account") account ∷ text_field (codes "day") (day_text day) ∷ []

-- the obligation of an account; the schedule of its first day; its paydays and the days that are
-- counted; when the return is due; and its payments, void ones aside
abbrev pub explanation_members : List ℕ → Explanation → List (List ℕ)
explanation_members account e =
    member (codes "obligation") (object_told (obligation_fields e.obligation))
    ∷ member (codes "status") (object_told (status_fields e.obligation.first e.kind e.reason))
    ∷ member (codes "paydays") (array_of (map (λ x. object_told (told_by payday_fields x))
    e.paydays))
    ∷ member (codes "days") (array_of (map (λ x. object_told (told_by counted_fields x)) e.days))
    ∷ member (codes "return_due") (quoted (day_text e.return_due))
    ∷ member (codes "payments") (array_of (map (payment_object account) e.payments)) ∷ []

-- what explains the obligation, if there is one; where there is none, that alone
abbrev pub explained_members : List ℕ → Option Explanation → List (List ℕ)
explained_members account None = member (codes "obligation") (codes "null") ∷ []
explained_members account (Some e) = explanation_members account e

-- an object, and the end of the line
unfoldable pub explanation_json : List ℕ → ℕ → Option Explanation → List ℕ
explanation_json account day explained =
    object_of (members_of (asked_fields account day) ++ explained_members account explained)
    ++ (line_end ∷ [])

-- how it begins: what was asked for
abbrev pub asked_head : List ℕ → ℕ → List ℕ
asked_head account day =
    concat (codes "{\"account\":\"" ∷ account ∷ codes "\",\"day\":\"" ∷ day_text day
    ∷ codes "\"," ∷ [])

-- when the return is due, after other members
abbrev pub return_member : ℕ → List ℕ
return_member day =
    concat (codes ",\"return_due\":\"" ∷ day_text day ∷ codes "\"" ∷ [])

-- ---- in a format: as text and as JSON; there is nothing to tell in the others

abbrev pub explanation_as : Format → ExplainedDay → List ℕ
explanation_as (Listed Text) x = explanation_told x.account x.day x.found
explanation_as (Listed Csv) x = []
explanation_as (Listed Json) x = explanation_json x.account x.day x.found
explanation_as Calendar x = []
