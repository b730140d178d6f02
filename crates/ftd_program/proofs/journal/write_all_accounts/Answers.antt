use Rattle.std.proofs.Common.{List, [], ap, map, refl, ◌∙◌}
use Rattle.std.specs.Prelude.{flat_map}
use Rattle.ftd_machine.specs.declared.kept.KeptAccount.{KeptAccount}
use Rattle.ftd_journal.specs.Parts.{kept_name, own_journal}
use Rattle.ftd_program.proofs.Journaled.{accounts_are, part_as, part_empty, part_then}
use Rattle.ftd_program.proofs.journal.write_all_accounts.Goals as goal

pub returns-in-Ok : goal.returns-in-Ok
returns-in-Ok g c =
    let none = part_empty g.S.Store g.O.Target.taken g.O.Target.failed c.args.desk.now
    c.all_accounts.new.desk c.args.out.now (λ s. []) c.in-Ok.ensures.stands
    (λ clean s keeps. refl) in
    part_as g.S.Store g.O.Target.taken g.O.Target.failed c.args.desk.now
    c.write_accounts.new.desk c.args.out.now c.write_accounts.new.out c.write_accounts.result _ _
    (λ s stood clean. ap (λ (xs : List KeptAccount). flat_map (own_journal s) (map kept_name xs))
    c.as_slice.ensures
    ∙ accounts_are s c.in-Ok.accounts stood.1
    (c.in-Ok.ensures.tells (c.write_accounts.ensures.stands.honest clean) s stood.0))
    (part_then g.S.Store g.O.Target.taken g.O.Target.failed c.args.desk.now
    c.all_accounts.new.desk c.write_accounts.new.desk c.args.out.now c.args.out.now
    c.write_accounts.new.out c.write_accounts.result (λ s. []) _ none c.write_accounts.ensures)
