-- The words of a pay run and of a payment, each a value at its place, and what they ask.
use Rattle.std.specs.Prelude.{◌==◌, [], ◌∷◌, ℕ, Bool, List, None, Option, Some, false, not}
use Rattle.std.specs.Prelude.{if◌then◌else◌, option_and_then, option_map}
use Rattle.std.specs.Fmt.{decimal}
use Rattle.std.specs.Str.{bytes_eq}
use Rattle.ftd_cli.specs.Words.{amount_of}
use Rattle.ftd_days.specs.Spelling.{day_of, whole_number}
use Rattle.ftd_rules.specs.declared.payment.Payment.{Payment}
use Rattle.ftd_rules.specs.declared.run.PayRun.{PayRun}
use Rattle.ftd_machine.specs.declared.requests.Request.{Request}
use Rattle.ftd_machine.specs.declared.requests.Request.TheVariants as request
use Rattle.ftd_verbs.specs.Rows.{row_of}
use Rattle.ftd_verbs.specs.declared.rows.Verb.TheVariants as verb
use Rattle.ftd_replies.specs.LineLaws.{WordsAsk}

-- ---- values

-- the word is no flag: it begins with another byte than a hyphen
abbrev pub is_value : List ℕ → Bool
is_value [] = false
is_value (first ∷ others) = not (first == 45)

-- what a word spells, if it is a value
abbrev pub value_as : {X : Type 0} → (List ℕ → Option X) → List ℕ → Option X
value_as reads word = if is_value word then reads word else None

-- the name of an account: any value
abbrev pub name_in : List ℕ → Option (List ℕ)
name_in word = value_as Some word

-- a number as it is printed, with no zero before it
abbrev pub as_printed : List ℕ → ℕ → Option ℕ
as_printed word number = if bytes_eq (decimal number) word then Some number else None

abbrev pub number_in : List ℕ → Option ℕ
number_in word = option_and_then (as_printed word) (whole_number word)

-- ---- a pay run and a payment

abbrev pub run_in : (payday fit ss medicare : List ℕ) → Option PayRun
run_in payday fit ss medicare =
    option_and_then (λ day.
    option_and_then (λ tax.
    option_and_then (λ social.
    option_map (λ care. record { payday = day; fit = tax; ss = social; medicare = care })
    (value_as amount_of medicare))
    (value_as amount_of ss))
    (value_as amount_of fit))
    (value_as day_of payday)

abbrev pub payment_in : (paid for_day cents : List ℕ) → Option Payment
payment_in paid for_day cents =
    option_and_then (λ day.
    option_and_then (λ other.
    option_map (λ amount. record { paid = day; for_day = other; cents = amount })
    (value_as amount_of cents))
    (value_as day_of for_day))
    (value_as day_of paid)

-- what `post` and `pay` ask with these words behind them
abbrev pub post_in : List (List ℕ) → Option Request
post_in (account ∷ number ∷ payday ∷ fit ∷ ss ∷ medicare ∷ []) =
    option_and_then (λ at.
    option_and_then (λ run. option_map (λ name. request.Post name at run) (name_in account))
    (run_in payday fit ss medicare))
    (number_in number)
post_in others = None

abbrev pub pay_in : List (List ℕ) → Option Request
pay_in (account ∷ number ∷ paid ∷ for_day ∷ cents ∷ []) =
    option_and_then (λ at.
    option_and_then (λ payment. option_map (λ name. request.Pay name at payment) (name_in account))
    (payment_in paid for_day cents))
    (number_in number)
pay_in others = None

-- ---- a line

-- the request of words that are those of a pay run or of a payment, each a value at its place
abbrev pub request_in : List (List ℕ) → Option Request
request_in [] = None
request_in (name ∷ words) =
    if bytes_eq name (row_of verb.Post).command then post_in words
    else if bytes_eq name (row_of verb.Pay).command then pay_in words
    else None

-- the words ask this request, whatever day it is, of the desk in whatever file
abbrev pub AlwaysAsk : List (List ℕ) → Request → Type 0
AlwaysAsk words asked = (today : Option ℕ) (db : List ℕ) → WordsAsk today db words asked
