-- What the desk knows for a form before it is filled in.
use Rattle.std.specs.Prelude.{ℕ, List, [], ◌∷◌, Option, None, Some, IfSome, option_map}
use Rattle.std.specs.Fmt.{decimal}
use Rattle.sqlite.specs.State.{HasCleanDisk}
use Rattle.ftd_days.specs.Text.{cents_text, day_text}
use Rattle.ftd_desk.specs.Desks.{Held, KeepsIfOpen}
use Rattle.ftd_desk.specs.Telling.{StandsAsBefore}
use Rattle.ftd_http.specs.declared.ask.Payable.{Payable}
use Rattle.ftd_journal.specs.Numbers.{IsNextNumber}
use Rattle.ftd_machine.specs.State.{State, entries_of}
use Rattle.ftd_verbs.specs.FieldRows.{key_of}
use Rattle.ftd_verbs.specs.declared.field.Field.TheVariants.{Account, Amount, For, Paid, Payment}
use Rattle.ftd_verbs.specs.declared.field.Field.TheVariants.{Run}
use Rattle.ftd_verbs.specs.declared.rows.Verb.{Verb}
use Rattle.ftd_verbs.specs.declared.rows.Verb.TheVariants as verb

-- the number is the next one of what a verb adds to the account, a pay run or a payment: the least
-- above all that the account has used
abbrev pub IsNextOf : Verb → State → List ℕ → ℕ → Type 0
IsNextOf verb.Post s account number = IsNextNumber (entries_of s account).runs number
IsNextOf verb.Pay s account number = IsNextNumber (entries_of s account).payments number
IsNextOf other s account number = ⊥

-- so of the account that is named; where none is, no number is
abbrev pub IsNextIf : Verb → State → Option (List ℕ) → ℕ → Type 0
IsNextIf verb s None number = ⊥
IsNextIf verb s (Some account) number = IsNextOf verb s account number

-- it is this number in each state that the desk stood for, if one was found; the desk stands for it
-- still
pub record FindsNext (old new : Held) (verb : Verb) (account : Option (List ℕ)) (found : Option ℕ)
    : Type 0 where
  pub next : HasCleanDisk new.db → (s : State) → KeepsIfOpen old s
      → IfSome found (IsNextIf verb s account)
  pub stands : StandsAsBefore old new

-- what is not known is shown as nothing
abbrev pub number_shown : Option ℕ → List ℕ
number_shown None = []
number_shown (Some number) = decimal number

abbrev pub day_shown : Option ℕ → List ℕ
day_shown None = []
day_shown (Some day) = day_text day

abbrev pub amount_shown : Option ℕ → List ℕ
amount_shown None = []
amount_shown (Some cents) = cents_text cents

-- the first day of the deposit period of what may be paid, and how much is left of it
abbrev pub first_of : Option Payable → Option ℕ
first_of payable = option_map (λ owed. owed.first) payable

abbrev pub left_of : Option Payable → Option ℕ
left_of payable = option_map (λ owed. owed.left.0) payable

-- what the desk and its clock know for a form: the account that is named, the next number of what
-- is added to it, today, and what may be paid
pub record Known : Type 0 where
  pub account : List ℕ
  pub number : Option ℕ
  pub today : Option ℕ
  pub payable : Option Payable

-- what is filled in of it, as names and texts: the account, the number of a new pay run or payment,
-- today as the day on which a payment is made, and the payment of what may be paid
abbrev pub given : Known → List (List ℕ × List ℕ)
given known =
    (key_of Account, known.account) ∷ (key_of Run, number_shown known.number)
    ∷ (key_of Payment, number_shown known.number) ∷ (key_of Paid, day_shown known.today)
    ∷ (key_of For, day_shown (first_of known.payable))
    ∷ (key_of Amount, amount_shown (left_of known.payable)) ∷ []
