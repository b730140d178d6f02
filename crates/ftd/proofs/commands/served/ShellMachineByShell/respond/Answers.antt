use Rattle.std.proofs.Common.{inr, refl}
use Rattle.ftd_forms.specs.Shown.{forms_said}
use Rattle.ftd_connections.specs.Home.{home}
use Rattle.ftd_server.specs.Tables.{handles}
use Rattle.ftd.proofs.Responses.{at_err, by_desk, if_ok, on_err, on_the_day}
use Rattle.ftd.proofs.commands.served.ShellMachineByShell.respond.Goals as goal

pub returns-in-Commands-clause-ok : goal.returns-in-Commands-clause-ok
returns-in-Commands-clause-ok g c =
    rw c.in-Commands.is
    (if_ok c.body_response.result (λ response said. (said, c.body_response.ensures.file))
    c.body_response.ensures.ok)

pub returns-in-Commands-clause-err : goal.returns-in-Commands-clause-err
returns-in-Commands-clause-err g c =
    rw c.in-Commands.is
    (on_err c.body_response.result
    (λ lost. inr (lost.0, (lost.1, c.body_response.ensures.file))) c.body_response.ensures.err)

pub returns-in-Journal-clause-ok : goal.returns-in-Journal-clause-ok
returns-in-Journal-clause-ok g c =
    rw c.in-Journal.is
    (if_ok c.journal_response.result (λ response said. (said, refl))
    (rw c.as_ref.ensures.value at c.journal_response.ensures.ok))

pub returns-in-Journal-clause-err : goal.returns-in-Journal-clause-err
returns-in-Journal-clause-err g c =
    rw c.in-Journal.is
    (on_err c.journal_response.result (λ lost. inr (lost.0, (lost.1, refl)))
    (rw c.as_ref.ensures.value at c.journal_response.ensures.err))

pub returns-in-Home-clause-ok : goal.returns-in-Home-clause-ok
returns-in-Home-clause-ok g c =
    rw c.in-Home.is
    (if_ok c.home_response.result (λ response is. ((refl, rw c.today.ensures is), refl))
    c.home_response.ensures)

pub returns-in-Home-clause-err : goal.returns-in-Home-clause-err
returns-in-Home-clause-err g c =
    rw c.in-Home.is (at_err c.home_response.result (inr (home _, ((refl, refl), refl))))

pub returns-in-Account-clause-ok : goal.returns-in-Account-clause-ok
returns-in-Account-clause-ok g c =
    rw c.in-Account.is
    (if_ok c.account_response.result (λ response said. (rw c.today-day.ensures said, refl))
    c.account_response.ensures.ok)

pub returns-in-Account-clause-err : goal.returns-in-Account-clause-err
returns-in-Account-clause-err g c =
    rw c.in-Account.is
    (on_err c.account_response.result
    (λ lost. inr (lost.0, (rw c.today-day.ensures lost.1, refl))) c.account_response.ensures.err)

pub returns-in-Forms-clause-ok : goal.returns-in-Forms-clause-ok
returns-in-Forms-clause-ok g c =
    rw c.in-Forms.is
    (if_ok c.form_list_response.result
    (λ response is. ((refl, rw c.today-in-Forms.ensures is), refl)) c.form_list_response.ensures)

pub returns-in-Forms-clause-err : goal.returns-in-Forms-clause-err
returns-in-Forms-clause-err g c =
    rw c.in-Forms.is
    (at_err c.form_list_response.result (inr (forms_said _, ((refl, refl), refl))))

pub returns-in-Form-clause-ok : goal.returns-in-Form-clause-ok
returns-in-Form-clause-ok g c =
    rw c.in-Form.is (rw c.today-day-in-Form.ensures c.form_response.ensures, refl)

pub returns-in-Sent-clause-ok : goal.returns-in-Sent-clause-ok
returns-in-Sent-clause-ok g c =
    rw c.in-Sent.is
    (rw c.today-in-Sent.ensures (rw c.deref.ensures at c.sent_response.ensures), refl)

pub returns-in_default-clause-ok : goal.returns-in_default-clause-ok
returns-in_default-clause-ok g c =
    if_ok c.desk_response.result
    (λ response said. (
      by_desk g.S.Store _ _ _ _ _ _ _ (record {
        commands = c.in_default.not-Commands;
        journal = c.in_default.not-Journal;
        home = c.in_default.not-Home;
        account = c.in_default.not-Account;
        forms = c.in_default.not-Forms;
        form = c.in_default.not-Form;
        sent = c.in_default.not-Sent;
      })
          (on_the_day (handles g.S.Store) _ _ _ _ _ _ c.page_day-today.ensures said),
      refl,
    ))
    c.desk_response.ensures.ok

pub returns-in_default-clause-err : goal.returns-in_default-clause-err
returns-in_default-clause-err g c =
    on_err c.desk_response.result
    (λ lost. inr (
      lost.0,
      (
        by_desk g.S.Store _ _ _ _ _ _ _ (record {
          commands = c.in_default.not-Commands;
          journal = c.in_default.not-Journal;
          home = c.in_default.not-Home;
          account = c.in_default.not-Account;
          forms = c.in_default.not-Forms;
          form = c.in_default.not-Form;
          sent = c.in_default.not-Sent;
        })
            (on_the_day (handles g.S.Store) _ _ _ _ _ _ c.page_day-today.ensures lost.1),
        refl,
      ),
    ))
    c.desk_response.ensures.err
