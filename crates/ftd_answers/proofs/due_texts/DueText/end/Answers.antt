use Rattle.std.proofs.Common.{sym, append-nil}
use Rattle.ftd_ports.proofs.WritingFacts.{breaks_off, ends, goes_on}
use Rattle.ftd_answers.proofs.RowFacts.{last_left}
use Rattle.ftd_answers.proofs.due_texts.DueText.end.Goals as goal

pub returns-in-Ok-clause-text : goal.returns-in-Ok-clause-text
returns-in-Ok-clause-text g c = λ start account quarter as_of rows has.
    ends
    (goes_on _ _ (last_left g.W.Target.taken start account quarter as_of rows c.args.self
    has) (sym (append-nil _)) c.in-Ok.ensures.ok)

pub returns-in-Err-clause-prefix : goal.returns-in-Err-clause-prefix
returns-in-Err-clause-prefix g c = λ start account quarter as_of rows has.
    breaks_off (last_left g.W.Target.taken start account quarter as_of rows c.args.self
    has) c.in-Err.ensures.err
