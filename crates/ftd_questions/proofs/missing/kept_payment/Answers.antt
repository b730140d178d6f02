use Rattle.std.proofs.Common.{◌≡◌, rules, sym}
use Rattle.ftd_entries.proofs.Kept.{kept_payment}
use Rattle.ftd_questions.proofs.Dropped.{kept_told}
use Rattle.ftd_questions.proofs.missing.kept_payment.Goals as goal

pub returns-in-Ok-payment-clause-knows : goal.returns-in-Ok-payment-clause-knows
returns-in-Ok-payment-clause-knows g c =
    let same : c.store-in-Ok-payment-1.given.0 ≡ c.drop-tx.new.self.0 = sym (search rules) in
    rw same (λ clean s kept. let its = kept_told c.in-Ok.ensures.begun
    c.in-Ok-payment.ensures.call c.drop-tx.ensures.crash clean s kept in
    kept_payment c.args.name.now its.0 s its.2 c.args.number c.in-Ok-payment.kept its.1)
