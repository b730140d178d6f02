use Rattle.std.proofs.Common.{inl, inr, refl, sym, ◌∙◌}
use Rattle.ftd_desk.proofs.requests.count_payments.Goals as goal

pub returns-in-Some : goal.returns-in-Some
returns-in-Some g c = inl (refl, c.in-Some.number, sym c.number.ensures ∙ c.in-Some.is, refl)

pub returns-in-None : goal.returns-in-None
returns-in-None g c = inr c.count_payments.ensures.call
