use Rattle.ftd_desk.specs.Desks.{held}
use Rattle.ftd_imports.proofs.Tried.{all_taken, would_import}
use Rattle.ftd_imports.proofs.trial.import_trial.Goals as goal

pub returns-in-Ok-try_list-clause-tells : goal.returns-in-Ok-try_list-clause-tells
returns-in-Ok-try_list-clause-tells g c =
    let takes = c.in-Ok-read_list.ensures in
    would_import (held g.S.Store c.args.desk.now) (held g.S.Store c.try_list.new.desk) c.args.sheet
    c.args.text.now c.in-Ok.counted.0 takes.taken c.none-done.result c.try_list.new.done
    c.in-Ok.ensures.0
    (all_taken c.in-Ok.counted.0 c.read_list.new.records c.in-Ok-read_list.list c.in-Ok.counted.1
    takes c.in-Ok.ensures.1)
    c.none-done.ensures (c.in-Ok-try_list.ensures.tells takes.taken takes.is)
