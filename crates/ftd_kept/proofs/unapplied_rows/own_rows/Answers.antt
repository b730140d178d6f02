use Rattle.ftd_kept.specs.Unapplied.{IsOfOne, IsOverpaidRow, IsStrayRow}
use Rattle.ftd_kept.proofs.Added.{adds_both}
use Rattle.ftd_kept.proofs.unapplied_rows.own_rows.Goals as goal

pub returns : goal.returns
returns c =
    adds_both (IsOfOne (IsOverpaidRow c.args.name.now c.args.payments.now) c.args.owed.now)
    (IsOfOne (IsStrayRow c.args.name.now c.args.owed.now) c.args.found.now) c.new-rows.result.items
    c.add_overpaid.new.rows.items c.add_stray.new.rows.items c.sort_by_key.new.self.items
    c.new-rows.ensures.items c.in_ok-add_overpaid.ensures c.in_ok-add_stray.ensures
    c.in_ok-sort_by_key.ensures.permutation
