use Rattle.ftd_desk.specs.Desks.{IsStopped, held}
use Rattle.ftd_imports.proofs.Texts.{text_fails, text_stops}
use Rattle.ftd_imports.proofs.importing.import.Goals as goal

pub returns-in-Err-clause-imports : goal.returns-in-Err-clause-imports
returns-in-Err-clause-imports g c =
    text_fails (IsStopped c.args.desk.now) (held g.S.Store c.args.desk.now) c.args.sheet
    c.args.text.now c.none-done.result c.in-Err.fault c.cause_of-cause.result
    c.cause_of-cause.ensures
    c.none-done.ensures c.in-Err.ensures

pub returns-clause-imports : goal.returns-clause-imports
returns-clause-imports g c =
    text_stops c.args.sheet c.args.text.now c.in-Ok.counted.0 c.in-Ok.ensures.0
    (held g.S.Store c.args.desk.now) (held g.S.Store c.post_lists-posted.new.desk)
    c.none-done.result c.post_lists-posted.new.done
    c.none-done.ensures (IsStopped c.post_lists-posted.new.desk) c.in-Err-posted.cause
    c.in-Err-posted.ensures
