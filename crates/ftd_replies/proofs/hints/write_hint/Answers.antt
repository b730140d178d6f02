use Rattle.std.proofs.Common.{◌∙◌, sym}
use Rattle.ftd_replies.specs.Hints.{hint_text}
use Rattle.ftd_replies.proofs.hints.write_hint.Goals as goal

pub returns-in-Said : goal.returns-in-Said
unfolding hint_text
returns-in-Said g c = rw (sym c.hint_of.ensures ∙ c.in-Said.is)
    (rw c.said.ensures at c.write_all.ensures)

pub returns-in-Enrol : goal.returns-in-Enrol
unfolding hint_text
returns-in-Enrol g c = rw (sym c.hint_of.ensures ∙ c.in-Enrol.is)
    (rw (c.as_bytes.ensures.value, c.account_in-account.ensures, c.enrolled_as.ensures)
    at c.write_on.ensures)

pub returns-in-Void : goal.returns-in-Void
unfolding hint_text
returns-in-Void g c = rw (sym c.hint_of.ensures ∙ c.in-Void.is)
    (rw (c.account_in-account.ensures, c.number_in.ensures) at c.write_number.ensures)

pub returns-in-VoidPay : goal.returns-in-VoidPay
unfolding hint_text
returns-in-VoidPay g c = rw (sym c.hint_of.ensures ∙ c.in-VoidPay.is)
    (rw (c.account_in-account.ensures, c.number_in-in-VoidPay.ensures)
    at c.write_number-in-VoidPay.ensures)

pub returns-in-Calendar : goal.returns-in-Calendar
unfolding hint_text
returns-in-Calendar g c = rw (sym c.hint_of.ensures ∙ c.in-Calendar.is) c.write_year.ensures

pub returns-in-Report : goal.returns-in-Report
unfolding hint_text
returns-in-Report g c = rw (sym c.hint_of.ensures ∙ c.in-Report.is)
    (rw c.account_in-account.ensures at c.write_quarter.ensures)

pub returns-in-ReportYear : goal.returns-in-ReportYear
unfolding hint_text
returns-in-ReportYear g c = rw (sym c.hint_of.ensures ∙ c.in-ReportYear.is)
    (rw c.account_in-account.ensures at c.write_number-in-ReportYear.ensures)

pub returns-in-OpenYear : goal.returns-in-OpenYear
unfolding hint_text
returns-in-OpenYear g c = rw (sym c.hint_of.ensures ∙ c.in-OpenYear.is)
    (rw c.account_in-account.ensures at c.write_number-in-OpenYear.ensures)

pub returns-in-Correct : goal.returns-in-Correct
unfolding hint_text
returns-in-Correct g c = rw (sym c.hint_of.ensures ∙ c.in-Correct.is) c.write_correct.ensures

pub returns-in-Next : goal.returns-in-Next
unfolding hint_text
returns-in-Next g c = rw (sym c.hint_of.ensures ∙ c.in-Next.is) c.write_next.ensures
