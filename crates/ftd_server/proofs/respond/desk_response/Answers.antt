use Rattle.std.proofs.Common.{refl}
use Rattle.std.specs.Prelude.{Result, Ok, Err, IfOk, OnErr}
use Rattle.ftd_server.specs.Replying.{account_in, answered}
use Rattle.ftd_connections.specs.Responses.{style_sheet}
use Rattle.ftd_server.proofs.respond.desk_response.Goals as goal

-- what holds in any case holds at an error
on_err : {T E P : Type 0} (result : Result T E) → P → OnErr result P
on_err (Ok x) fact = tt
on_err (Err e) fact = fact

pub returns-in-StyleSheet-clause-err : goal.returns-in-StyleSheet-clause-err
returns-in-StyleSheet-clause-err g c =
    on_err c.style_response.result (style_sheet, rw c.in-StyleSheet.is (refl, refl))

pub returns-in-Asks-clause-err : goal.returns-in-Asks-clause-err
returns-in-Asks-clause-err g c =
    on_err c.answered.result (
      answered c.args.today c.in-Asks.format (account_in c.in-Asks.request) c.handle-answer.result,
      rw c.in-Asks.is (c.handle-answer.result, c.handle-answer.ensures.handles, refl),
    )

-- what follows from the value of an Ok
if_ok : {T E : Type 0} {P Q : T → Type 0} (result : Result T E) → ((x : T) → P x → Q x)
    → IfOk result P → IfOk result Q
if_ok (Ok x) to fact = to x fact
if_ok (Err e) to fact = fact

pub returns-in-Asks-clause-ok : goal.returns-in-Asks-clause-ok
returns-in-Asks-clause-ok g c =
    if_ok c.answered.result
    (λ response said. rw c.in-Asks.is (c.handle-answer.result, c.handle-answer.ensures.handles, said))
    (rw c.account_in.ensures at c.answered.ensures)
