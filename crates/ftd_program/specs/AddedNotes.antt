-- What is said below the summary of an import: which accounts it added obligations to.
use Rattle.std.specs.Prelude.{ℕ, ◌+◌, min, List, [], ◌∷◌, codes, length}
use Rattle.std.specs.Fmt.{decimal}
use Rattle.std.specs.List.{concat, flat_map}
use Rattle.ftd_days.specs.Text.{day_text}
use Rattle.ftd_rules.specs.declared.Obligation.{Obligation}
use Rattle.ftd_imports.specs.declared.added.AccountAdded.{AccountAdded}

-- the earliest of a day and the due dates of the rows
abbrev pub earliest : ℕ → List Obligation → ℕ
earliest day [] = day
earliest day (o ∷ rows) = earliest (min day o.due) rows

-- how many obligations were added to an account, and the earliest due date among them:
-- `note: ash: obligations added: 2, earliest due date 2024-02-15`
unfoldable pub counted_note : List ℕ → ℕ → ℕ → List ℕ
counted_note account count due =
    concat (codes "note: " ∷ account ∷ codes ": obligations added: " ∷ decimal count
    ∷ codes ", earliest due date " ∷ day_text due ∷ codes "\n" ∷ [])

-- nothing of an account to which none was added that stayed
abbrev pub note_of : List ℕ → List Obligation → List ℕ
note_of account [] = []
note_of account (o ∷ rows) = counted_note account (length rows + 1) (earliest o.due rows)

abbrev pub account_note : AccountAdded → List ℕ
account_note added = note_of added.account added.rows

-- so of each account
abbrev pub added_notes : List AccountAdded → List ℕ
added_notes accounts = flat_map account_note accounts
