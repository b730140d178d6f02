use Rattle.std.proofs.Common.{◌≡◌, ◌==◌, ◌&&◌, ◌||◌, Bool, true, false, length, None, refl, ◌∙◌}
use Rattle.std.specs.List.{list_any}
use Rattle.ftd_rules.specs.declared.YearLine.{YearLine}
use Rattle.ftd_entries.specs.Opening.{turns_into}
use Rattle.ftd_entries.proofs.NextLine.{next_line_is, and_then, and_else, or_then, or_else}
use Rattle.ftd_entries.proofs.open_years.next_line.Goals as goal
use Rattle.ftd_entries.proofs.open_years.next_line.Goals.{then-is_empty, else-is_empty}
use Rattle.ftd_entries.proofs.open_years.next_line.Goals.{then-carried, else-carried}

pub returns : goal.returns
returns c =
    let line : YearLine = record {
      year = c.args.year;
      lookback = c.args.total;
      carried = c.if-is_empty.carried;
      opening = c.opening.result;
      turn = None;
    } in
    let empty : Bool = length c.args.lines.now == 0 in
    let some_turned : Bool = list_any (turns_into c.args.year) c.args.lines.now in
    let carried : c.if-is_empty.carried ≡ ((length c.args.lines.now == 0) && c.args.carried) =
    elim c.if-is_empty.branch [
      | then-is_empty w ↦ and_then empty c.args.carried c.if-is_empty.carried
          (let e : (length c.args.lines.now == 0) ≡ true = cc in e) w.carried-is
      | else-is_empty w ↦ and_else empty c.args.carried c.if-is_empty.carried
          (let e : (length c.args.lines.now == 0) ≡ false = cc in
          e) (w.carried-is ∙ w.if-is_empty.false)
    ] in
    let turned : c.if-carried.opening ≡ (c.if-is_empty.carried || list_any (turns_into c.args.year)
    c.args.lines.now) =
    elim c.if-carried.branch [
      | then-carried w ↦ or_then c.if-is_empty.carried some_turned c.if-carried.opening
          w.if-carried.true (w.opening-is ∙ w.if-carried.true)
      | else-carried w ↦ or_else c.if-is_empty.carried some_turned c.if-carried.opening
          w.if-carried.false (let e : c.if-carried.opening ≡ list_any (turns_into c.args.year)
          c.args.lines.now = cc in e)
    ] in
    next_line_is c.args.lines.now c.args.carried line carried refl
    (rw turned at c.opening.ensures.semiweekly) (rw turned at c.opening.ensures.monthly)
