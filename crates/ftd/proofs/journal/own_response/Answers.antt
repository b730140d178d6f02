use Rattle.std.proofs.Common.{None, Some, refl}
use Rattle.ftd_server.specs.Refusals.{refused}
use Rattle.ftd_connections.specs.Responses.{said_of}
use Rattle.ftd.specs.Journals.{told_or_refused, unknown, unread}
use Rattle.ftd.proofs.JournalFacts.{own_known, own_lost, own_told}
use Rattle.ftd.proofs.Responses.{at_err, if_ok, on_err}
use Rattle.ftd.proofs.journal.own_response.Goals as goal

pub returns-in-Ok-Some-clause-ok : goal.returns-in-Ok-Some-clause-ok
returns-in-Ok-Some-clause-ok g c =
    let new = c.account_journal.new.self in
    if_ok c.lines_response.result
    (λ response is. own_told g.S.Store c.args.desk.now new c.args.account.now
    c.in-Ok-Some.requests.items c.request_lines.result (said_of response)
    (own_known g.S.Store c.args.desk.now new c.args.account.now c.in-Ok-Some.field-0
    (Some c.in-Ok-Some.requests) c.in-Ok-Some.field-0-is c.in-Ok-Some.ensures.knows)
    (rw c.deref.ensures.value at c.request_lines.ensures.lines) c.request_lines.ensures.fault
    c.account_journal.ensures.stands is)
    c.lines_response.ensures

pub returns-in-Ok-Some-clause-err : goal.returns-in-Ok-Some-clause-err
returns-in-Ok-Some-clause-err g c =
    let new = c.account_journal.new.self in
    at_err c.lines_response.result (
      told_or_refused c.request_lines.result,
      own_told g.S.Store c.args.desk.now new c.args.account.now c.in-Ok-Some.requests.items
          c.request_lines.result _
          (own_known g.S.Store c.args.desk.now new c.args.account.now c.in-Ok-Some.field-0
          (Some c.in-Ok-Some.requests) c.in-Ok-Some.field-0-is c.in-Ok-Some.ensures.knows)
          (rw c.deref.ensures.value at c.request_lines.ensures.lines) c.request_lines.ensures.fault
          c.account_journal.ensures.stands refl,
    )

pub returns-in-Ok-None-clause-ok : goal.returns-in-Ok-None-clause-ok
returns-in-Ok-None-clause-ok g c =
    let between = c.account_journal.new.self in
    if_ok c.years_response.result
    (λ response responds. unknown between
    (own_known g.S.Store c.args.desk.now between c.args.account.now c.in-Ok-None.field-0 None
    c.in-Ok-None.field-0-is c.in-Ok-None.ensures.knows)
    c.account_journal.ensures.stands responds)
    c.years_response.ensures.ok

pub returns-in-Ok-None-clause-err : goal.returns-in-Ok-None-clause-err
returns-in-Ok-None-clause-err g c =
    let between = c.account_journal.new.self in
    on_err c.years_response.result
    (own_lost g.S.Store c.args.desk.now c.years_response.new.desk c.args.account.now between
    (own_known g.S.Store c.args.desk.now between c.args.account.now c.in-Ok-None.field-0 None
    c.in-Ok-None.field-0-is c.in-Ok-None.ensures.knows)
    c.account_journal.ensures.stands)
    c.years_response.ensures.err

pub returns-in-Err-clause-ok : goal.returns-in-Err-clause-ok
returns-in-Err-clause-ok g c =
    if_ok c.refusal_response.result
    (λ response is. unread c.in-Err.refusal c.in-Err.ensures.fault
    c.account_journal.ensures.stands is)
    c.refusal_response.ensures

pub returns-in-Err-clause-err : goal.returns-in-Err-clause-err
returns-in-Err-clause-err g c =
    at_err c.refusal_response.result (
      refused c.in-Err.refusal,
      unread c.in-Err.refusal c.in-Err.ensures.fault c.account_journal.ensures.stands refl,
    )
