use Rattle.std.proofs.Common.{◌≡◌, [], Some}
use Rattle.sqlite.proofs.Callers.{memory_is_clean}
use Rattle.ftd_c.proofs.NewDesks.{are_answers}
use Rattle.ftd_c.proofs.office.answers_to.Goals as goal

pub returns-in-Ok : goal.returns-in-Ok
returns-in-Ok c =
    let is_left : Some c.new-source.result.inner.now ≡ Some c.args.messages.now = cc in
    let is_taken : Some c.new-target.result.inner.items ≡ Some [] = cc in
    let is_text : Some c.serve.new.target.inner.items ≡ Some c.into_inner.result.items = cc in
    are_answers _ _ _ _ _ _ _ _ c.in-Ok.field-0 (memory_is_clean c.serve.new.desk.store.conn)
    c.in_ok-desk.ensures is_left is_taken is_text c.in-Ok.ensures.ok
