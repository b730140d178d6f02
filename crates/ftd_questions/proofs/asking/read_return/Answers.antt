use Rattle.std.proofs.Common.{◌≡◌, rules, sym}
use Rattle.ftd_questions.proofs.Dropped.{answered, told_in_it}
use Rattle.ftd_questions.proofs.asking.read_return.Goals as goal

pub returns-in-Ok-asked-clause-shut : goal.returns-in-Ok-asked-clause-shut
returns-in-Ok-asked-clause-shut g c = search rules

pub returns-in-Ok-asked-clause-knows : goal.returns-in-Ok-asked-clause-knows
returns-in-Ok-asked-clause-knows g c =
    let same : c.store-in-Ok-asked-1.given.0 ≡ c.drop-tx.new.self.0 = sym (search rules) in
    rw same (λ clean t stands. answered c.args.name.now c.args.quarter c.args.as_of t
    c.in-Ok-asked.asked (told_in_it c.in-Ok.ensures.begun c.in-Ok-asked.ensures.call
    c.drop-tx.ensures.crash clean t stands))
