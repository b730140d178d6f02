use Rattle.std.proofs.Common.{◌≡◌, sym, rules}
use Rattle.sqlite.specs.Held.{state}
use Rattle.ftd_store.specs.Walking.{walked}
use Rattle.ftd_questions.proofs.Walked.{clean_before, stand_unchanged, if_ok}
use Rattle.ftd_questions.proofs.telling.tell_quarter.Goals as goal

pub returns-in-Ok-clause-tells : goal.returns-in-Ok-clause-tells
returns-in-Ok-clause-tells g c =
    let left : c.conn-1.given.0 ≡ c.tell_rows.new.rows.conn.now = sym (search rules) in
    rw left (λ clean t stands.
    let begun = c.in-Ok.ensures.begun (clean_before (walked g.S.Store c.in-Ok.rows)
    (state g.S.Store c.tell_rows.new.rows.conn.now) c.tell_rows.ensures.stays.crash clean) in
    c.tell_rows.ensures.tells clean c.args.name.now c.args.quarter begun.0 t
    (stand_unchanged (state g.S.Store c.args.conn.now) (walked g.S.Store c.in-Ok.rows) begun.1 t
    stands))

pub returns-in-Ok-clause-shows : goal.returns-in-Ok-clause-shows
returns-in-Ok-clause-shows g c =
    let left : c.conn-1.given.0 ≡ c.tell_rows.new.rows.conn.now = sym (search rules) in
    rw left (λ clean. let begun = c.in-Ok.ensures.begun (clean_before
    (walked g.S.Store c.in-Ok.rows)
    (state g.S.Store c.tell_rows.new.rows.conn.now) c.tell_rows.ensures.stays.crash clean) in
    if_ok c.tell_rows.result
    (λ done shows t stands. shows c.args.name.now c.args.quarter begun.0 t
    (stand_unchanged (state g.S.Store c.args.conn.now) (walked g.S.Store c.in-Ok.rows) begun.1 t
    stands))
    (c.tell_rows.ensures.shows clean))
