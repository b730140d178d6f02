use Rattle.ftd_journal.specs.Parts.{accounts_journal}
use Rattle.ftd_machine.specs.Journal.{days_journal}
use Rattle.ftd_program.proofs.Journaled.{handed_on, part_as, part_broken, part_then}
use Rattle.ftd_program.proofs.Journaled.{whole_is}
use Rattle.ftd_program.proofs.journal.write_journal.Goals as goal

pub returns-in_err-write_days : goal.returns-in_err-write_days
returns-in_err-write_days g c =
    rw (handed_on c.from_residual.result c.in_err-write_days.field-0.0
    c.from_residual.ensures.0 c.from_residual.ensures.1) (part_as g.S.Store g.O.Target.taken g.O.Target.failed
    c.args.desk.now c.write_days.new.desk c.args.out.now c.write_days.new.out _ _ _
    (λ s stood clean. whole_is s stood.1)
    (part_broken g.S.Store g.O.Target.taken g.O.Target.failed c.args.desk.now
    c.write_days.new.desk c.args.out.now c.write_days.new.out _ days_journal accounts_journal
    c.in_err-write_days.ensures))

pub returns : goal.returns
returns g c =
    part_as g.S.Store g.O.Target.taken g.O.Target.failed c.args.desk.now
    c.write_all_accounts.new.desk c.args.out.now c.write_all_accounts.new.out
    c.write_all_accounts.result _ _ (λ s stood clean. whole_is s stood.1)
    (part_then g.S.Store g.O.Target.taken g.O.Target.failed c.args.desk.now
    c.write_days.new.desk c.write_all_accounts.new.desk c.args.out.now c.write_days.new.out
    c.write_all_accounts.new.out c.write_all_accounts.result days_journal accounts_journal
    c.in_ok-write_days.ensures c.write_all_accounts.ensures)
