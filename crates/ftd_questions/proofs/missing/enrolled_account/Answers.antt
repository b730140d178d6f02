use Rattle.std.proofs.Common.{◌≡◌, rules, sym}
use Rattle.ftd_questions.proofs.Dropped.{kept_told}
use Rattle.ftd_questions.proofs.missing.enrolled_account.Goals as goal

pub returns-in-Ok-enrolment-clause-knows : goal.returns-in-Ok-enrolment-clause-knows
returns-in-Ok-enrolment-clause-knows g c =
    let same : c.store-in-Ok-enrolment-1.given.0 ≡ c.drop-tx.new.self.0 = sym (search rules) in
    rw same (λ clean s kept. let its = kept_told c.in-Ok.ensures.begun
    c.in-Ok-enrolment.ensures.call c.drop-tx.ensures.crash clean s kept in its.1 s its.2)
