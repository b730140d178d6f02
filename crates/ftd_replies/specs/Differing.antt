-- In which field a pay run or a payment differs from the one that has its number:
-- `fit is 510.00, posted with 500.00`; and an account from the one that has its name:
-- `form is 943, enrolled with 941`.
use Rattle.std.specs.Prelude.{ℕ, nat_eq, Bool, true, false, List, [], ◌∷◌, codes, if◌then◌else◌}
use Rattle.std.specs.List.{concat}
use Rattle.ftd_days.specs.Text.{cents_text, day_text}
use Rattle.ftd_answers.specs.Agendas.{form_number}
use Rattle.ftd_machine.specs.Requests.{is_form}
use Rattle.ftd_machine.specs.declared.entries.Account.{Account}
use Rattle.ftd_rules.specs.declared.payment.Payment.{Payment}
use Rattle.ftd_rules.specs.declared.run.PayRun.{PayRun}
use Rattle.ftd_replies.specs.declared.differing.Differing.{Differing}
use Rattle.ftd_replies.specs.declared.differing.Differing.TheVariants.{Accounts, Runs, Payments}

-- which amount, or which day, it is, and with which it was posted
unfoldable pub amounts_text : List ℕ → ℕ → ℕ → List ℕ
amounts_text field amount kept =
    concat (field ∷ codes " is " ∷ cents_text amount ∷ codes ", posted with " ∷ cents_text kept ∷ [])

unfoldable pub days_text : List ℕ → ℕ → ℕ → List ℕ
days_text field day kept =
    concat (field ∷ codes " is " ∷ day_text day ∷ codes ", posted with " ∷ day_text kept ∷ [])

-- the first field that differs
unfoldable pub run_amounts : PayRun → PayRun → List ℕ
run_amounts run kept =
    if nat_eq run.fit.0 kept.fit.0 then
    (if nat_eq run.ss.0 kept.ss.0 then
    amounts_text (codes "medicare") run.medicare.0 kept.medicare.0
    else amounts_text (codes "ss") run.ss.0 kept.ss.0)
    else amounts_text (codes "fit") run.fit.0 kept.fit.0

unfoldable pub run_difference : PayRun → PayRun → List ℕ
run_difference run kept =
    if nat_eq run.payday kept.payday then run_amounts run kept
    else days_text (codes "payday") run.payday kept.payday

unfoldable pub payment_difference : Payment → Payment → List ℕ
payment_difference payment kept =
    if nat_eq payment.paid kept.paid then
    (if nat_eq payment.for_day kept.for_day then
    amounts_text (codes "amount") payment.cents.0 kept.cents.0
    else days_text (codes "for") payment.for_day kept.for_day)
    else days_text (codes "paid") payment.paid kept.paid

-- of an account which it is, and with which it was enrolled; or that it is carried, or not
unfoldable pub enrolled_text : List ℕ → List ℕ → List ℕ → List ℕ
enrolled_text field text kept =
    concat (field ∷ codes " is " ∷ text ∷ codes ", enrolled with " ∷ kept ∷ [])

abbrev pub carried_text : Bool → List ℕ
carried_text true = codes "it is carried, enrolled as not carried"
carried_text false = codes "it is not carried, enrolled as carried"

unfoldable pub account_difference : Account → Account → List ℕ
account_difference account kept =
    if is_form account.form kept.form then
    (if nat_eq account.start kept.start then carried_text account.carried
    else enrolled_text (codes "first day") (day_text account.start) (day_text kept.start))
    else enrolled_text (codes "form") (form_number account.form) (form_number kept.form)

abbrev pub difference_text : Differing → List ℕ
difference_text (Accounts asked kept) = account_difference asked kept
difference_text (Runs asked kept) = run_difference asked kept
difference_text (Payments asked kept) = payment_difference asked kept
