use Rattle.std.proofs.Common.{subst, arith}
use Rattle.ftd_store.proofs.Replaced.{all_taken}
use Rattle.ftd_kept.specs.Unapplied.{Adds, IsOfOne, IsStrayRow}
use Rattle.ftd_kept.proofs.Added.{adds_next}
use Rattle.ftd_kept.proofs.unapplied_rows.add_stray.Goals as goal

pub loop-row-preserved : goal.loop-row-preserved
loop-row-preserved c =
    adds_next (IsStrayRow c.args.name.now c.args.owed.now) c.args.found.now
    c.loop-row.row-index c.row-item.result c.loop-row-test.true c.row-item.is
    c.args.rows.now.items c.loop-row.rows.items c.add_if_stray.new.rows.items
    c.loop-row.invariant c.in_ok-add_if_stray.ensures

pub returns : goal.returns
returns c =
    let end = c.loop-row-test.false in
    subst (λ found. Adds (IsOfOne (IsStrayRow c.args.name.now c.args.owed.now) found)
    c.args.rows.now.items c.loop-row.rows.items)
    (all_taken c.args.found.now c.loop-row.row-index (omega arith)) c.loop-row.invariant
