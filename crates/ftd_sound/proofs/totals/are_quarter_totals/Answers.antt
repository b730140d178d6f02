use Rattle.std.proofs.Common.{◌≡◌, List, ℕ, Bool, refl, subst, ◌∙◌, Result, IfOk}
use Rattle.std.specs.Prelude.{◌↔◌, IsTrue}
use Rattle.ftd_days.specs.declared.cents.Cents.{Cents}
use Rattle.ftd_machine.specs.declared.entries.ReturnPeriod.TheVariants.{Quarter}
use Rattle.ftd_sound.specs.Private.Plain.{AreOfPeriods, AreTotals}
use Rattle.ftd_sound.proofs.Deciding.{and_also}
use Rattle.ftd_sound.proofs.totals.are_quarter_totals.Goals as goal

as_given : {E : Type 0} (r : Result Bool E) (xs ys cs ds : List (ℕ × Cents)) → xs ≡ ys → cs ≡ ds
    → IfOk r (λ b. IsTrue b ↔ AreTotals xs cs) → IfOk r (λ b. IsTrue b ↔ AreTotals ys ds)
as_given r xs ys cs ds e f h =
    subst (λ (zs : List (ℕ × Cents)). IfOk r (λ b. IsTrue b ↔ AreTotals ys zs)) f
    (subst (λ (zs : List (ℕ × Cents)). IfOk r (λ b. IsTrue b ↔ AreTotals zs cs)) e h)

pub returns : goal.returns
returns c = and_also (AreOfPeriods c.args.account Quarter c.args.reported.now)
    (AreTotals c.args.reported.now c.args.corrected.now) c.are_totals.result
    (c.if-not-are_of_quarters.ensures.0 refl)
    (as_given c.are_totals.result c.deref.result.now c.args.reported.now c.deref-2.result.now
    c.args.corrected.now (c.deref.ensures.value ∙ c.in_ok-reported.ensures)
    (c.deref-2.ensures.value ∙ c.in_ok-corrected.ensures) c.are_totals.ensures)
