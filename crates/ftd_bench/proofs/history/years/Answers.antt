use Rattle.std.proofs.Common.{arith, ◌≡◌, List, length, ◌∙◌}
use Rattle.std.specs.Prelude.{IsTrue}
use Rattle.std.proofs.lemmas.List.{length_push}
use Rattle.std.proofs.lemmas.Bool.Decides.{nat_tests}
use Rattle.ftd_rules.specs.declared.YearLine.{YearLine}
use Rattle.ftd_rules.proofs.Histories.{years_push, carried_push}
use Rattle.ftd_bench.proofs.history.years.Goals as goal
use Rattle.ftd_bench.proofs.history.years.Goals.{then-carried, else-carried}

-- only the first year is one to which the account is carried
first_alone : (c : goal.In_ok-push) → IsTrue c.if-carried.here → length c.loop-cents.lines.items ≡ 0
first_alone c =
    let year = c.loop-cents.invariant.0 in
    let count = c.loop-cents.invariant.1 in
    elim c.if-carried.branch [
      | then-carried w ↦ λ t. (let same : c.loop-cents.year ≡ c.args.first =
          grind (arith, nat_tests, w.here-is, t) in omega arith)
      | else-carried w ↦ λ t. absurd (let k = rw (w.here-is, w.if-carried.false) at t in cc)
    ]

pub loop-cents-preserved : goal.loop-cents-preserved
loop-cents-preserved c =
    let l = c.loop-cents in
    let xs : List YearLine = l.lines.items in
    let year = l.invariant.0 in
    let count = l.invariant.1 in
    let to = c.requires in
    let more = c.loop-cents-test.true in
    rw c.in_ok-push.ensures.items (
      omega arith,
      length_push xs _ ∙ omega arith,
      years_push c.args.first xs _ l.invariant.2 (omega arith) (omega arith),
      carried_push xs _ l.invariant.3 (first_alone c),
    )
