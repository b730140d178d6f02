use Rattle.std.proofs.Common.{◌≡◌, rules, tests, ℕ, true, false}
use Rattle.std.proofs.lemmas.Bool.{false≢true}
use Rattle.std.proofs.lemmas.Iterator.{YieldsList-from_slice, cases_from_all}
use Rattle.ftd_rules.specs.declared.run.Voidable.{Voidable}
use Rattle.ftd_rules.specs.declared.payment.Payment.{Payment}
use Rattle.ftd_sound.specs.Private.Plain.{IsPayment}
use Rattle.ftd_sound.proofs.Deciding.{all_decides}
use Rattle.ftd_sound.proofs.payments.are_each.Goals as goal

pub returns : goal.returns
returns c =
    let P : ℕ × Voidable Payment → Type 0 = λ e. IsPayment c.args.account c.args.years.now e in
    all_decides P c.args.payments.now c.all.result
    (cases_from_all _ _ _ P (λ e. P e → ⊥) c.all.ensures.ran
    (YieldsList-from_slice c.args.payments.now cc) (λ x q k. search (rules, tests))
    (λ x q k h. (let t : false ≡ true = search (rules, tests) in false≢true t)))
