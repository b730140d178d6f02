use Rattle.std.proofs.Common.{map, refl}
use Rattle.std.specs.String.{string_bytes}
use Rattle.ftd_shell.specs.Shells.{ways_of}
use Rattle.ftd_shell.proofs.UnderstoodLines.{always_understood}
use Rattle.ftd_shell.proofs.shell.Shell.understand_words.Goals as goal

pub returns-in-Ok-Some-clause-understands : goal.returns-in-Ok-Some-clause-understands
returns-in-Ok-Some-clause-understands g c =
    always_understood (ways_of c.args.self.now) c.args.self.now.db c.in-Ok.shown
    (map string_bytes c.args.words.now) c.in-Ok-Some.request c.of_request.result refl
    c.in-Ok.ensures (rw c.in-Ok-Some.field-0-is at c.in-Ok-Some.ensures.asks) c.of_request.ensures
