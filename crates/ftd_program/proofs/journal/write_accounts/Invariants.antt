use Rattle.std.proofs.Common.{Ok, map, take}
use Rattle.std.specs.Prelude.{flat_map}
use Rattle.ftd_journal.specs.Parts.{kept_name, own_journal}
use Rattle.ftd_program.specs.Journals.{WritesPart}
use Rattle.ftd_program.proofs.journal.write_accounts.Given as goal

abbrev pub invariant-loop-account : goal.invariant-loop-account
invariant-loop-account g l = record {
  so_far : WritesPart g.S.Store g.O.Target.taken g.O.Target.failed l.fn.desk l.desk l.fn.out l.out
      (Ok tt)
      (λ s. flat_map (own_journal s) (map kept_name (take l.account-index l.accounts)));
}
