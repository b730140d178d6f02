use Rattle.std.proofs.Common.{◌<◌, ◌+◌, ℕ, List, length, set, ap, sym, subst, arith}
use Rattle.std.proofs.Math.ListN.{drop_of_length-le}
use Rattle.std.proofs.lemmas.List.Elements.{All-set, All-get_or}
use Rattle.ftd_days.specs.declared.cents.Cents.{Cents}
use Rattle.ftd_rules.specs.declared.YearLine.{YearLine}
use Rattle.ftd_store.specs.Amounts.{IsStorable}
use Rattle.ftd_sql.specs.Standing.{Tables}
use Rattle.ftd_store.proofs.Replaced.{all_taken}
use Rattle.ftd_repairs.specs.Replaced.{AreBetween}
use Rattle.ftd_repairs.specs.Rescheduled.{HasLines, IsRescheduled, IsUnnamed, PutsInto}
use Rattle.ftd_store.proofs.Turning.{writes_turn, turns_on, turns_then}
use Rattle.ftd_repairs.proofs.Putting.{PutSoFar, put_none, put_more, put_same, put_all}
use Rattle.ftd_repairs.proofs.patching.put_patch.Goals as goal
use Rattle.ftd_repairs.proofs.patching.put_patch.Goals.{in-Some+in_ok-put_line, in_default}

pub loop-i-init : goal.loop-i-init
loop-i-init g c =
    let name = c.args.account.now in
    let lines : List YearLine = c.args.lines.now in
    let patch = c.args.patch.now in
    record {
      lookbacks = c.requires.lookbacks;
      call = turns_on tt
          (λ done t u. AreBetween name patch.from patch.to c.args.gone.now t → HasLines name lines t
          → PutSoFar name lines patch 0 lines t u) c.in_ok-put_rows.ensures.call
          (λ t u puts gone had. put_none name lines patch t u (puts gone) had);
    }

pub loop-i-preserved : goal.loop-i-preserved
loop-i-preserved g c =
    let name = c.args.account.now in
    let lines : List YearLine = c.args.lines.now in
    let patch = c.args.patch.now in
    let i : ℕ = c.loop-i.i in
    let now : List YearLine = c.loop-i.lines in
    let x : YearLine = c.index-lines-i.result in
    let long = c.loop-i.auto.lines in
    let below = c.loop-i-test.true in
    let some : i < length lines = omega arith in
    let Holds : YearLine → Type 0 = λ line. IsStorable line.lookback in
    let So : ℕ → List YearLine → Tables → Tables → Type 0 = λ n ls t u.
    AreBetween name patch.from patch.to c.args.gone.now t → HasLines name lines t
    → PutSoFar name lines patch n ls t u in
    elim c.match-rescheduled.branch [
      | in-Some+in_ok-put_line w ↦
          (let after : YearLine = w.in-Some.after in
          let scheduled : IsRescheduled patch.years x after =
          rw (c.as_slice.ensures, ← c.index-lines-i.is) at w.in-Some.ensures in
          let holds : Holds x = subst Holds (sym c.index-lines-i.is)
          (All-get_or Holds now i x (omega arith) c.loop-i.invariant.lookbacks) in
          let still : Holds after = subst (λ (amount : Cents). IsStorable amount)
          (sym (ap (λ (l : YearLine). l.lookback) scheduled.3)) holds in
          rw (w.tx-is, w.lines-is, w.put_line.ensures.line) (record {
            lookbacks = All-set Holds now i after still c.loop-i.invariant.lookbacks;
            call = turns_then tt (λ done. So (i + 1) (set now i after)) c.loop-i.invariant.call
                (writes_turn w.in_ok-put_line.ensures.call)
                (λ t u v so_far is gone had. subst (λ (z : Tables). PutSoFar name lines patch
                (i + 1) (set now i after) t z) (sym is)
                (put_more name lines patch i now x after t u some c.index-lines-i.is scheduled
                (so_far gone had)));
          }))
      | in_default w ↦
          (let unnamed : IsUnnamed patch.years x = rw (c.as_slice.ensures, ← c.index-lines-i.is) at
          w.in_default.ensures in
          rw (w.tx-is, w.lines-is) (record {
            lookbacks = c.loop-i.invariant.lookbacks;
            call = turns_on tt (λ done. So (i + 1) now) c.loop-i.invariant.call
                (λ t u so_far gone had. put_same name lines patch i now x t u some
                c.index-lines-i.is unnamed (so_far gone had));
          }))
    ]

pub returns : goal.returns
returns g c =
    let name = c.args.account.now in
    let lines : List YearLine = c.args.lines.now in
    let now : List YearLine = c.loop-i.lines in
    let patch = c.args.patch.now in
    let i : ℕ = c.loop-i.i in
    let end = c.loop-i-test.false in
    record {
      call = turns_on _
          (λ done t u. AreBetween name patch.from patch.to c.args.gone.now t → HasLines name lines t
          → PutsInto name lines patch now t u) c.loop-i.invariant.call
          (λ t u so_far gone had. put_all name lines patch i now t u
          (all_taken lines i (omega arith)) (drop_of_length-le lines (omega arith))
          (so_far gone had));
    }
