-- What is said below a reply of the obligations that were added: a line each, at most 20, and how
-- many more there are; and of the years that are on another schedule: a line each.
use Rattle.std.specs.Prelude.{ℕ, List, [], ◌∷◌, ◌++◌, codes, length, take, drop, Option, None}
use Rattle.std.specs.Prelude.{Some}
use Rattle.std.specs.Fmt.{decimal}
use Rattle.std.specs.List.{concat, flat_map}
use Rattle.ftd_days.specs.Text.{day_text}
use Rattle.ftd_rules.specs.Text.{rule_text}
use Rattle.ftd_rules.specs.declared.Kind.{Kind}
use Rattle.ftd_rules.specs.declared.Kind.TheVariants as kind
use Rattle.ftd_rules.specs.declared.Obligation.{Obligation}
use Rattle.ftd_rules.specs.declared.YearLine.{YearLine}
use Rattle.ftd_machine.specs.declared.replies.Difference.{Difference}
use Rattle.ftd_replies.specs.Notes.{amount_so}

-- its days, its rule, its amount and its due date:
-- `note: added 2026-10-14 to 2026-10-16, semiweekly, 759.00, due 2026-10-21`
unfoldable pub added_days : Obligation → List ℕ
added_days o =
    concat (codes "note: added " ∷ day_text o.first ∷ codes " to " ∷ day_text o.last ∷ codes ", "
    ∷ rule_text o.rule ∷ [])

unfoldable pub added_cents : Obligation → List ℕ
added_cents o = amount_so o.cents.0 (codes ", due ")

unfoldable pub due_end : Obligation → List ℕ
due_end o = concat (day_text o.due ∷ codes "\n" ∷ [])

unfoldable pub added_note : Obligation → List ℕ
added_note o = added_days o ++ (added_cents o ++ due_end o)

-- how many more there are, if there are any
abbrev pub more_note : List Obligation → List ℕ
more_note [] = []
more_note (x ∷ more) =
    concat (codes "note: and " ∷ decimal (length (x ∷ more)) ∷ codes " more\n" ∷ [])

unfoldable pub added_notes : List Obligation → List ℕ
added_notes rows = flat_map added_note (take 20 rows) ++ more_note (drop 20 rows)

-- a year, and from when on it is semiweekly: `note: 2024 is semiweekly from its first day`, `note:
-- 2024 is semiweekly after 2024-05-10, when 100000.00 was reached`, or `note: 2024 is monthly`
abbrev pub schedule_words : List ℕ → Kind → Option ℕ → List ℕ
schedule_words year kind.Semiweekly turn =
    concat (codes "note: " ∷ year ∷ codes " is semiweekly from its first day\n" ∷ [])
schedule_words year kind.Monthly None = concat (codes "note: " ∷ year ∷ codes " is monthly\n" ∷ [])
schedule_words year kind.Monthly (Some turn) =
    concat (codes "note: " ∷ year ∷ codes " is semiweekly after " ∷ day_text turn
    ∷ codes ", when 100000.00 was reached\n" ∷ [])

abbrev pub schedule_note : YearLine → List ℕ
schedule_note line = schedule_words (decimal line.year) line.opening line.turn

-- how an account differs before and after a change
unfoldable pub changes_text : Difference → List ℕ
changes_text d = added_notes d.added ++ flat_map schedule_note d.years
