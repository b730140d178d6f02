use Rattle.std.proofs.Common.{◌≡◌, rules, sym}
use Rattle.ftd_questions.proofs.Dropped.{told_in_it}
use Rattle.ftd_desk.proofs.checking.check.Goals as goal

pub returns-in-Ok-check_tables-clause-knows : goal.returns-in-Ok-check_tables-clause-knows
returns-in-Ok-check_tables-clause-knows g c =
    let same : c.store-in-Ok-check_tables-1.given.0 ≡ c.drop-tx.new.self.0 = sym (search rules) in
    rw same (λ clean t stands. told_in_it c.in-Ok.ensures.begun c.in-Ok-check_tables.ensures.call
    c.drop-tx.ensures.crash clean t stands)
