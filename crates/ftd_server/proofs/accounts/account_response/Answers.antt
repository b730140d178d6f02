use Rattle.std.specs.Prelude.{Result, Ok, Err, IfOk, OnErr}
use Rattle.ftd_server.specs.Accounts.{said_to}
use Rattle.ftd_server.proofs.AccountFacts.{tells, tells_so}
use Rattle.ftd_server.proofs.accounts.account_response.Goals as goal

if_ok : {T E : Type 0} {P Q : T → Type 0} (result : Result T E) → ((x : T) → P x → Q x)
    → IfOk result P → IfOk result Q
if_ok (Ok x) to fact = to x fact
if_ok (Err e) to fact = fact

on_err : {T E P : Type 0} (result : Result T E) → P → OnErr result P
on_err (Ok x) fact = tt
on_err (Err e) fact = fact

pub returns-clause-ok : goal.returns-clause-ok
returns-clause-ok g c =
    if_ok c.response_to.result
    (λ response is. tells_so g.S.Store c.args.today c.args.desk.now c.ask_for_page-asked.new.desk
    c.args.account.now _ _ is
    (tells g.S.Store c.args.today c.args.desk.now c.ask_for_page-asked.new.desk
    c.args.account.now c.ask_for_page-asked.result
    (rw c.as_str-name.ensures at c.ask_for_page-asked.ensures.ok)
    c.ask_for_page-asked.ensures.err))
    (rw c.as_str-name.ensures at c.response_to.ensures)

pub returns-clause-err : goal.returns-clause-err
returns-clause-err g c =
    on_err c.response_to.result (
      said_to c.args.today c.args.account.now c.ask_for_page-asked.result,
      tells g.S.Store c.args.today c.args.desk.now c.ask_for_page-asked.new.desk
          c.args.account.now c.ask_for_page-asked.result
          (rw c.as_str-name.ensures at c.ask_for_page-asked.ensures.ok)
          c.ask_for_page-asked.ensures.err,
    )
