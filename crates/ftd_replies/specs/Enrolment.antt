-- What can be done about an account that is enrolled with another first day or form, or carried
-- otherwise.
use Rattle.std.specs.Prelude.{ℕ, Bool, true, false, List, ◌++◌, codes, if◌then◌else◌}
use Rattle.ftd_days.specs.Text.{day_text}
use Rattle.ftd_machine.specs.Requests.{is_form}
use Rattle.ftd_machine.specs.declared.entries.Account.{Account}
use Rattle.ftd_replies.specs.Commands.{command_of}
use Rattle.ftd_replies.specs.Differing.{difference_text}
use Rattle.ftd_replies.specs.declared.differing.Differing.TheVariants.{Accounts}
use Rattle.ftd_replies.specs.declared.enrolment.Enrolment.{Enrolment}

-- the option of an account that is carried, and the end of the line
abbrev pub carried_end : Bool → List ℕ
carried_end true = codes " --carried\n"
carried_end false = codes "\n"

-- the command that corrects it
abbrev pub correction_text : List ℕ → List ℕ → Account → List ℕ
correction_text db name account =
    command_of (codes "hint: to correct it, ftd correct-account --db ") db name
    (day_text account.start) (carried_end account.carried)

-- no account gets another form, and none is corrected on which something rests
unfoldable pub advice_text : List ℕ → List ℕ → Enrolment → List ℕ
advice_text db name enrolment =
    if is_form enrolment.asked.form enrolment.kept.form then
    (if enrolment.is_unused then correction_text db name enrolment.asked
    else codes "hint: it can't be corrected, since a total is reported, or a year is open; enrol a new account by another name\n")
    else codes "hint: a form can't be corrected; enrol a new account by another name\n"

-- in what it differs, and what can be done about it
unfoldable pub enrolment_text : List ℕ → List ℕ → Enrolment → List ℕ
enrolment_text db name enrolment =
    codes "hint: " ++ (difference_text (Accounts enrolment.asked enrolment.kept)
    ++ (codes "\n" ++ advice_text db name enrolment))
