use Rattle.std.proofs.Common.{List, Ok, ap, drop, map, ◌+◌}
use Rattle.std.proofs.lemmas.List.{take_all}
use Rattle.std.specs.Prelude.{flat_map}
use Rattle.ftd_machine.specs.declared.kept.KeptAccount.{KeptAccount}
use Rattle.ftd_journal.specs.Parts.{kept_name, own_journal}
use Rattle.ftd_program.proofs.Journaled.{accounts_more, accounts_split, handed_on, part_as}
use Rattle.ftd_program.proofs.Journaled.{part_broken, part_done, part_then}
use Rattle.ftd_program.proofs.journal.write_accounts.Goals as goal

pub loop-account-preserved : goal.loop-account-preserved
loop-account-preserved g c =
    let accounts = c.args.accounts.now in
    let i = c.loop-account.account-index in
    record {
      so_far = part_as g.S.Store g.O.Target.taken g.O.Target.failed c.args.desk.now
          c.write_account.new.desk c.args.out.now c.write_account.new.out (Ok tt) _ _
          (λ s stood clean. accounts_more s accounts i c.account-item.result c.as_str.result.now
          c.loop-account-test.true c.account-item.is c.as_str.ensures)
          (part_then g.S.Store g.O.Target.taken g.O.Target.failed c.args.desk.now
          c.loop-account.desk c.write_account.new.desk c.args.out.now c.loop-account.out
          c.write_account.new.out (Ok tt) _ _ c.loop-account.invariant.so_far
          (part_done g.S.Store g.O.Target.taken g.O.Target.failed c.loop-account.desk
          c.write_account.new.desk c.loop-account.out c.write_account.new.out
          c.in_ok-write_account.field-0 _ c.in_ok-write_account.ensures));
    }

pub returns-in_err-write_account : goal.returns-in_err-write_account
returns-in_err-write_account g c =
    let accounts = c.args.accounts.now in
    let i = c.loop-account.account-index in
    let account = c.account-item.result in
    let two = part_then g.S.Store g.O.Target.taken g.O.Target.failed c.args.desk.now
    c.loop-account.desk c.write_account.new.desk c.args.out.now c.loop-account.out
    c.write_account.new.out _ _ _ c.loop-account.invariant.so_far
    c.in_err-write_account.ensures in
    rw (handed_on c.from_residual.result c.in_err-write_account.field-0.0
    c.from_residual.ensures.0 c.from_residual.ensures.1) (part_as g.S.Store g.O.Target.taken g.O.Target.failed
    c.args.desk.now c.write_account.new.desk c.args.out.now c.write_account.new.out _ _ _
    (λ s stood clean. accounts_split s accounts i account c.as_str.result.now
    c.loop-account-test.true c.account-item.is c.as_str.ensures)
    (part_broken g.S.Store g.O.Target.taken g.O.Target.failed c.args.desk.now
    c.write_account.new.desk c.args.out.now c.write_account.new.out _ _
    (λ s. flat_map (own_journal s) (map kept_name (drop (i + 1) accounts))) two))

pub returns : goal.returns
returns g c =
    part_as g.S.Store g.O.Target.taken g.O.Target.failed c.args.desk.now c.loop-account.desk
    c.args.out.now c.loop-account.out (Ok tt) _ _
    (λ s stood clean. ap (λ (xs : List KeptAccount). flat_map (own_journal s) (map kept_name xs))
    (take_all c.loop-account.account-index c.args.accounts.now c.loop-account-test.false))
    c.loop-account.invariant.so_far
