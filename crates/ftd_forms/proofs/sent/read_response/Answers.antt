use Rattle.std.proofs.Common.{refl}
use Rattle.ftd_forms.specs.Sent.{asked, bad}
use Rattle.ftd_forms.proofs.sent.read_response.Goals as goal

pub returns-in-Ok : goal.returns-in-Ok
returns-in-Ok g c = asked c.in-Ok.request c.in-Ok.ensures c.asked_response.ensures

pub returns-in-Err-Bad : goal.returns-in-Err-Bad
returns-in-Err-Bad g c =
    bad c.in-Err-Bad.field (rw c.in-Err-Bad.field-0-is at c.in-Err-Bad.ensures) refl
    c.bad_response.ensures
