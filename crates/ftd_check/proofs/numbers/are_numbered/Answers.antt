use Rattle.std.proofs.Common.{◌≡◌, ◌∙◌, ◌+◌, get_or, take, arith, nat_eq}
use Rattle.std.proofs.Common.{ap, unwrap_or}
use Rattle.std.specs.HashMap.{get}
use Rattle.ftd_check.specs.Numbers.{count_at}
use Rattle.ftd_check.proofs.Counting.{number_at, numbered_more, counted_more}
use Rattle.ftd_check.proofs.numbers.are_numbered.Goals as goal
use Rattle.ftd_check.proofs.numbers.are_numbered.Goals.{then-row-eq0-via-then-row-eq0}
use Rattle.ftd_check.proofs.numbers.are_numbered.Goals.{}
use Rattle.ftd_check.proofs.numbers.are_numbered.Goals.{then-row-eq0-via-else-row-eq0+then-row-before}

pub returns-then-row-eq0 : goal.returns-then-row-eq0
returns-then-row-eq0 c =
    let rows = c.args.rows.now in
    let i = c.loop-row.row-index in
    let row = get_or rows i (0, 0) in
    let before = c.unwrap_or-before.ensures
    ∙ ap (λ o. unwrap_or o 0) (c.copied.ensures ∙ c.get.ensures.value)
    ∙ c.loop-row.invariant.counted row.0 in
    let at = number_at rows i (0, 0) c.loop-row-test.true in (
      (λ is. absurd (cc)),
      λ numbered. absurd (let its = at numbered in
          elim c.then-row-eq0.branch [
            | then-row-eq0-via-then-row-eq0 w ↦ omega arith
            | then-row-eq0-via-else-row-eq0+then-row-before w ↦ w.if-row-before.true (omega arith)
          ]),
    )

pub loop-row-preserved : goal.loop-row-preserved
loop-row-preserved c =
    let rows = c.args.rows.now in
    let i = c.loop-row.row-index in
    let row = get_or rows i (0, 0) in
    let before = c.unwrap_or-before.ensures
    ∙ ap (λ o. unwrap_or o 0) (c.copied.ensures ∙ c.get.ensures.value)
    ∙ c.loop-row.invariant.counted row.0 in
    let is : row.1 ≡ count_at row.0 (take i rows) + 1 = omega arith in
    record {
      counted = λ key. counted_more rows i (0, 0) c.loop-row-test.true is
          (get nat_eq c.loop-row.counts key) (get nat_eq c.insert.new.self key) key
          (c.loop-row.invariant.counted key) (c.in_ok-insert.ensures.updates.0 key);
      numbered = numbered_more rows i (0, 0) c.loop-row-test.true is c.loop-row.invariant.numbered;
    }
