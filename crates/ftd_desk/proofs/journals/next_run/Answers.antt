use Rattle.std.proofs.Common.{◌≡◌, rules, sym}
use Rattle.ftd_questions.proofs.Dropped.{kept_told}
use Rattle.ftd_desk.proofs.journals.next_run.Goals as goal

pub returns-in-Ok-next_run-clause-knows : goal.returns-in-Ok-next_run-clause-knows
returns-in-Ok-next_run-clause-knows g c =
    let same : c.store-in-Ok-next_run-1.given.0 ≡ c.drop-tx.new.self.0 = sym (search rules) in
    rw same (λ clean s kept. let its = kept_told c.in-Ok.ensures.begun
    c.in-Ok-next_run.ensures.call c.drop-tx.ensures.crash clean s kept in
    its.1 s its.2 its.3)
