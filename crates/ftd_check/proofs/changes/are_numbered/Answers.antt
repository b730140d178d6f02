use Rattle.std.proofs.Common.{◌∙◌, ◌+◌, ◌&&◌, sym, ap, Bool, take, drop, arith}
use Rattle.std.specs.List.{list_all}
use Rattle.ftd_entries.specs.Standing.{with_earlier}
use Rattle.ftd_check.specs.Private.DayRows.{is_numbered}
use Rattle.ftd_check.proofs.ChangesShown.{numbered_step}
use Rattle.ftd_check.proofs.changes.are_numbered.Goals as goal

pub returns-then-not-is_numbered : goal.returns-then-not-is_numbered
returns-then-not-is_numbered c =
    let xs = c.args.changes.now in
    let i = c.loop-i.i in
    let step = numbered_step xs i c.index-changes-i.result (omega arith) c.index-changes-i.is in
    let off = sym c.is_numbered.ensures ∙ c.if-not-is_numbered.true in
    sym (c.loop-i.invariant ∙ step
    ∙ ap (λ (b : Bool). b
    && list_all is_numbered (with_earlier (take (i + 1) xs) (drop (i + 1) xs))) off)

pub loop-i-preserved : goal.loop-i-preserved
loop-i-preserved c =
    let xs = c.args.changes.now in
    let i = c.loop-i.i in
    let step = numbered_step xs i c.index-changes-i.result (omega arith) c.index-changes-i.is in
    let on = sym c.is_numbered.ensures ∙ c.if-not-is_numbered.false in
    c.loop-i.invariant ∙ step
    ∙ ap (λ (b : Bool). b
    && list_all is_numbered (with_earlier (take (i + 1) xs) (drop (i + 1) xs))) on
