use Rattle.std.proofs.Common.{◌≡◌, sym, subst, ◌∙◌, arith}
use Rattle.sqlite.specs.Effect.{Database}
use Rattle.std.proofs.Common.{true}
use Rattle.sqlite.specs.State.{HasCleanDisk, KeepsCommit}
use Rattle.sqlite.specs.Held.{state}
use Rattle.ftd_sql.specs.States.{within}
use Rattle.ftd_setup.specs.Versions.{Becomes}
use Rattle.ftd_setup.proofs.Surviving.{becoming_survives, kept_begin, undone}
use Rattle.ftd_setup.proofs.opening.Found.carry_out.Goals as goal

pub returns-in-Ok-clause-done : goal.returns-in-Ok-clause-done
returns-in-Ok-clause-done g c clean =
    let old = state g.S.Store c.args.self.now.conn in
    let last = within g.S.Store c.apply.new.tx in
    let clean_last : HasCleanDisk last = omega (arith, c.commit.ensures.survives.clean) in
    let made = c.in_ok-apply.ensures.step.does clean_last in
    let shows = (c.in-Ok.ensures.ok clean).1 in (
      subst (λ (d : Database). Becomes c.args.how old.now d) (sym shows.now_is)
          (rw c.transaction-tx.ensures.begun at made),
      shows.committed_is ∙ sym shows.now_is,
    )

pub returns-in-Ok-clause-crash : goal.returns-in-Ok-clause-crash
returns-in-Ok-clause-crash g c =
    becoming_survives g.S.Store c.args.how c.args.self.now.conn _ _ _ c.transaction-tx.ensures.begun
    c.in_ok-apply.ensures.step.crash c.in_ok-apply.ensures.step.does c.commit.ensures.survives

pub returns-in-Err-clause-crash : goal.returns-in-Err-clause-crash
returns-in-Err-clause-crash g c =
    becoming_survives g.S.Store c.args.how c.args.self.now.conn _ _ _ c.transaction-tx.ensures.begun
    c.in_ok-apply.ensures.step.crash c.in_ok-apply.ensures.step.does c.commit.ensures.survives

pub returns-in-Err-clause-kept : goal.returns-in-Err-clause-kept
returns-in-Err-clause-kept g c clean opened =
    let old = state g.S.Store c.args.self.now.conn in
    let last = within g.S.Store c.apply.new.tx in
    let end = state g.S.Store c.commit.new.self.0 in
    let clean_last : HasCleanDisk last = omega (arith, c.commit.ensures.survives.clean) in
    let kept : KeepsCommit old last = kept_begin g.S.Store c.args.self.now.conn last
    (rw c.transaction-tx.ensures.begun at c.in_ok-apply.ensures.step.kept clean_last) in
    let busy : last.in_transaction ≡ true =
    rw c.transaction-tx.ensures.begun at c.in_ok-apply.ensures.step.mode clean_last in
    undone old last end c.in-Err.error
    (c.is_autocommit.ensures.settled c.if-not-is_autocommit.false) kept busy opened
    (c.in-Err.ensures.err clean)
