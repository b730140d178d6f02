use Rattle.std.proofs.Common.{◌≡◌, rules, tests, ℕ, Some, true, false}
use Rattle.std.proofs.lemmas.Bool.{false≢true}
use Rattle.std.proofs.lemmas.Iterator.{YieldsList-from_slice, cases_from_all}
use Rattle.ftd_days.specs.declared.cents.Cents.{Cents}
use Rattle.ftd_machine.specs.declared.entries.ReturnPeriod.TheVariants.{Quarter}
use Rattle.ftd_machine.specs.Sound.{IsReportable}
use Rattle.ftd_sound.proofs.Deciding.{all_decides}
use Rattle.ftd_sound.proofs.totals.are_of_quarters.Goals as goal

pub returns : goal.returns
returns c =
    let P : ℕ × Cents → Type 0 = λ e. IsReportable (Some c.args.account) (Quarter e.0) in
    all_decides P c.args.totals.now c.all.result
    (cases_from_all _ _ _ P (λ e. P e → ⊥) c.all.ensures.ran
    (YieldsList-from_slice c.args.totals.now cc) (λ x q k. search (rules, tests))
    (λ x q k h. (let t : false ≡ true = search (rules, tests) in false≢true t)))
