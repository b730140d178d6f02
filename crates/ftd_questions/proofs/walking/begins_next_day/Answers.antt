use Rattle.std.proofs.Common.{◌≡◌, rules, sym}
use Rattle.sqlite.specs.Held.{state}
use Rattle.ftd_store.specs.Walking.{walked}
use Rattle.ftd_questions.proofs.Walked.{clean_before, begun_then, stand_unchanged, if_ok}
use Rattle.ftd_questions.proofs.walking.begins_next_day.Goals as goal

pub returns-in-Ok-clause-knows : goal.returns-in-Ok-clause-knows
returns-in-Ok-clause-knows g c =
    let left : c.conn-1.given.0 ≡ c.meets_next_day.new.rows.conn.now = sym (search rules) in
    rw left (λ clean. let begun = c.in-Ok.ensures.begun (clean_before
    (walked g.S.Store c.in-Ok.rows)
    (state g.S.Store c.meets_next_day.new.rows.conn.now) c.meets_next_day.ensures.stays.crash clean)
    in
    if_ok c.meets_next_day.result (λ found knows t stands. knows t
    (stand_unchanged (state g.S.Store c.args.conn.now) (walked g.S.Store c.in-Ok.rows) begun.1 t
    stands))
    (c.meets_next_day.ensures.knows clean c.args.name.now c.args.quarter begun.0))

pub returns-in-Ok-clause-stays : goal.returns-in-Ok-clause-stays
returns-in-Ok-clause-stays g c =
    let left : c.conn-1.given.0 ≡ c.meets_next_day.new.rows.conn.now = sym (search rules) in
    rw left (begun_then (state g.S.Store c.args.conn.now) (walked g.S.Store c.in-Ok.rows)
    (state g.S.Store c.meets_next_day.new.rows.conn.now) (λ clean. (c.in-Ok.ensures.begun clean).1)
    c.in-Ok.ensures.crash c.in-Ok.ensures.settled c.meets_next_day.ensures.stays)
