-- Which name is nearest to a mistyped one.
use Rattle.std.specs.Prelude.{ℕ, ◌≡◌, ◌<◌, ◌≤◌, ◌/◌, ◌↔◌}
use Rattle.std.specs.Prelude.{List, [], length, map, min, nat_eq, get_or}
use Rattle.std.specs.Prelude.{Option, MatchOption}
use Rattle.std.specs.Borrow.{Bor}
use Rattle.std.specs.Str.{chars}
use Rattle.strsim.specs.Edits.{levenshtein_row}
use Rattle.ftd_rules.specs.Lists.{Has}
use Rattle.ftd_sql.specs.Standing.{Tables}
use Rattle.ftd_machine.specs.Agenda.{EachToLater}
use Rattle.ftd_machine.specs.Kept.{IsAccountBefore, IsEnrolled}
use Rattle.ftd_machine.specs.Sound.{IsSound}
use Rattle.ftd_machine.specs.State.{State}
use Rattle.ftd_machine.specs.declared.kept.KeptAccount.{KeptAccount}
use Rattle.ftd_entries.specs.Standing.{StandsFor}

-- names that are lent, as texts
abbrev pub texts_of : List (Bor (List ℕ)) → List (List ℕ)
texts_of names = map (λ (name : Bor (List ℕ)). name.now) names

-- how many edits lead from what was typed to the name at a place: a character that is put in,
-- taken out or changed
abbrev pub edits_to : List ℕ → List (List ℕ) → ℕ → ℕ
edits_to typed names place =
    levenshtein_row nat_eq (chars typed) (chars (get_or names place []))
    (length (chars (get_or names place [])))

-- how many edits a name that is near may be away: two, and one for every three bytes that were
-- typed
abbrev pub most_edits : List ℕ → ℕ
most_edits typed = min 2 (length typed / 3)

-- it is the place of the first of the names to which the fewest edits lead, and that is near
pub record IsNearest (typed : List ℕ) (names : List (List ℕ)) (place : ℕ) : Type 0 where
  pub within : place < length names
  pub near : edits_to typed names place ≤ most_edits typed
  pub fewest : (other : ℕ) → other < length names
      → edits_to typed names place ≤ edits_to typed names other
  pub first : (other : ℕ) → other < place
      → edits_to typed names place < edits_to typed names other

-- none of the names is near
abbrev pub NoneIsNear : List ℕ → List (List ℕ) → Type 0
NoneIsNear typed names =
    (place : ℕ) → place < length names → most_edits typed < edits_to typed names place

-- of the names this is the nearest one, if one is near
abbrev pub IsNearestOf : List (List ℕ) → List ℕ → Option (List ℕ) → Type 0
IsNearestOf names typed found =
    MatchOption found (NoneIsNear typed names)
    (λ name. (place : ℕ) × IsNearest typed names place × (name ≡ get_or names place []))

-- ---- accounts

abbrev pub names_of : List KeptAccount → List (List ℕ)
names_of accounts = map (λ (x : KeptAccount). x.name) accounts

-- of all accounts, by name, this is the one whose name is nearest to what was typed, if one is near
pub record IsMeant (s : State) (typed : List ℕ) (found : Option (List ℕ)) : Type 0 where
  pub accounts : List KeptAccount
  pub by_name : EachToLater IsAccountBefore accounts
  pub all : (x : KeptAccount) → Has accounts x ↔ IsEnrolled s x
  pub nearest : IsNearestOf (names_of accounts) typed found

-- so in each sound state for which the tables stand
abbrev pub KnowsMeant : List ℕ → Option (List ℕ) → Tables → Type 0
KnowsMeant typed found t = (s : State) → StandsFor t s → IsSound s → IsMeant s typed found
