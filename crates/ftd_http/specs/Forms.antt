-- The targets of forms.
use Rattle.std.specs.Prelude.{ℕ, List, Option, None, Some, codes, option_and_then, option_map}
use Rattle.std.specs.Prelude.{if◌then◌else◌}
use Rattle.std.specs.List.{find}
use Rattle.std.specs.Path.{rsplit_once}
use Rattle.std.specs.Str.{bytes_eq}
use Rattle.ftd_days.specs.Spelling.{day_of}
use Rattle.ftd_days.specs.declared.cents.Cents.{Cents}
use Rattle.ftd_verbs.specs.Rows.{all_verbs, row_of}
use Rattle.ftd_verbs.specs.declared.rows.Method.TheVariants.{Get, Post}
use Rattle.ftd_verbs.specs.declared.rows.Verb.{Verb}
use Rattle.ftd_verbs.specs.declared.rows.Verb.TheVariants.{Pay}
use Rattle.ftd_http.specs.Methods.{method_text}
use Rattle.ftd_http.specs.Values.{amount_of}
use Rattle.ftd_http.specs.declared.ask.Payable.{Payable}
use Rattle.ftd_http.specs.declared.ask.Inquiry.{Inquiry}
use Rattle.ftd_http.specs.declared.ask.Methods.TheVariants.{GetAndPost, Only}
use Rattle.ftd_http.specs.declared.ask.Inquiry.TheVariants as asked

-- the verb of a command
unfoldable pub verb_named : List ℕ → Option Verb
verb_named command = find (λ verb. bytes_eq (row_of verb).command command) all_verbs

-- the command of an empty form, whose target is the path of forms and the command
abbrev pub behind_forms : List ℕ × List ℕ → Option (List ℕ)
behind_forms cut = if bytes_eq cut.0 (codes "/forms") then Some cut.1 else None

abbrev pub form_command : List ℕ → Option (List ℕ)
form_command target = option_and_then behind_forms (rsplit_once 47 target)

abbrev pub form_verb : List ℕ → Option Verb
form_verb target = option_and_then verb_named (form_command target)

-- what a message of this method asks of an empty form: to be shown it, or what it was filled in
-- with; and of one with an account filled in
abbrev pub empty_form : List ℕ → Verb → Inquiry
empty_form method verb =
    if bytes_eq method (method_text Get) then asked.Form verb None None
    else if bytes_eq method (method_text Post) then asked.Sent verb
    else asked.OtherMethod GetAndPost

abbrev pub account_form : List ℕ → Verb → List ℕ → Inquiry
account_form method verb account =
    if bytes_eq method (method_text Get) then asked.Form verb (Some account) None
    else asked.OtherMethod (Only Get)

-- what of an obligation may be paid: its deposit period begins on this day, and so much is left
abbrev pub payable : ℕ → Cents → Payable
payable first left = record { first = first; left = left }

abbrev pub payable_in : List ℕ → List ℕ → Option Payable
payable_in first left =
    option_and_then (λ day. option_map (payable day) (amount_of left)) (day_of first)

-- the account that is behind the path of the form of payments
abbrev pub of_pay : List ℕ × List ℕ → Option (List ℕ)
of_pay cut = if bytes_eq cut.0 (codes "/forms/pay") then Some cut.1 else None

abbrev pub paying_account : List ℕ → Option (List ℕ)
paying_account path = option_and_then of_pay (rsplit_once 47 path)

-- what a target names of a payment: the account, and what may be paid, behind the path of its form
abbrev pub paying : List ℕ → Payable → Option (List ℕ × Payable)
paying path owed = option_map (λ account. (account, owed)) (paying_account path)

abbrev pub paying_cut : List ℕ → List ℕ × List ℕ → Option (List ℕ × Payable)
paying_cut left cut = option_and_then (paying cut.0) (payable_in cut.1 left)

abbrev pub paying_behind : List ℕ × List ℕ → Option (List ℕ × Payable)
paying_behind last = option_and_then (paying_cut last.1) (rsplit_once 47 last.0)

unfoldable pub pay_named : List ℕ → Option (List ℕ × Payable)
pay_named target = option_and_then paying_behind (rsplit_once 47 target)

-- what a message asks of the form of a payment with all that filled in, if its target names it
abbrev pub pay_form : List ℕ → Option (List ℕ × Payable) → Inquiry
pay_form method None = asked.NoRoute
pay_form method (Some named) =
    if bytes_eq method (method_text Get) then asked.Form Pay (Some named.0) (Some named.1)
    else asked.OtherMethod (Only Get)

-- what a message asks whose target is a path and an account behind it, or that of such a form
abbrev pub filled_if : List ℕ → List ℕ → List ℕ → Option Verb → Inquiry
filled_if method target account None = pay_form method (pay_named target)
filled_if method target account (Some verb) = account_form method verb account

abbrev pub filled_cut : List ℕ → List ℕ → Option (List ℕ × List ℕ) → Inquiry
filled_cut method target None = asked.NoRoute
filled_cut method target (Some cut) = filled_if method target cut.1 (form_verb cut.0)

-- what a message asks whose target may be that of a form
abbrev pub form_if : List ℕ → List ℕ → Option Verb → Inquiry
form_if method target (Some verb) = empty_form method verb
form_if method target None = filled_cut method target (rsplit_once 47 target)

abbrev pub form_behind : List ℕ → List ℕ → Inquiry
form_behind method target = form_if method target (form_verb target)

-- so where it may also be that of the page that lists forms
abbrev pub forms_asked : List ℕ → Inquiry
forms_asked method =
    if bytes_eq method (method_text Get) then asked.Forms else asked.OtherMethod (Only Get)

abbrev pub form_at : List ℕ → List ℕ → Inquiry
form_at method target =
    if bytes_eq target (codes "/forms") then forms_asked method else form_behind method target
