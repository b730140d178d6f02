use Rattle.std.proofs.Common.{◌≡◌, rules, sym}
use Rattle.ftd_entries.proofs.Kept.{kept_run}
use Rattle.ftd_questions.proofs.Dropped.{kept_told}
use Rattle.ftd_questions.proofs.missing.kept_run.Goals as goal

pub returns-in-Ok-run-clause-knows : goal.returns-in-Ok-run-clause-knows
returns-in-Ok-run-clause-knows g c =
    let same : c.store-in-Ok-run-1.given.0 ≡ c.drop-tx.new.self.0 = sym (search rules) in
    rw same (λ clean s kept. let its = kept_told c.in-Ok.ensures.begun
    c.in-Ok-run.ensures.call c.drop-tx.ensures.crash clean s kept in
    kept_run c.args.name.now its.0 s its.2 c.args.number c.in-Ok-run.kept its.1)
