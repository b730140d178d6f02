use Rattle.ftd_days.proofs.Numerals.{two_same}
use Rattle.std.proofs.Common.{◌∷◌, ap}
use Rattle.ftd_answers.proofs.values.amount_text.Goals as goal

pub returns-clause-cents : goal.returns-clause-cents
returns-clause-cents c =
    let cents = two_same c.args.amount in
    rw (c.last_digit.ensures, c.last_digit-2.ensures) (ap (λ z. 46 ∷ z) cents)
