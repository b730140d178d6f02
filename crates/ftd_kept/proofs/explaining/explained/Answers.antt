use Rattle.std.proofs.Common.{None, Some, subst, sym}
use Rattle.ftd_store.proofs.Telling.{reads_on, then_reads}
use Rattle.ftd_rules.specs.declared.Obligation.{Obligation}
use Rattle.ftd_rules.specs.Laws.{Covers}
use Rattle.ftd_kept.specs.Explained.{KnowsCovering, ShowsCovering}
use Rattle.ftd_kept.proofs.explaining.explained.Goals as goal

pub returns-in_default : goal.returns-in_default
returns-in_default g c =
    let name = c.args.name.now in
    let day = c.args.day in
    record {
      call = reads_on None _ c.in_ok-obligation.ensures.call (λ t covers. (
        (λ s stands sound form_is lines_are.
            subst (λ o. KnowsCovering name day o t) c.in_default.is covers.0 s stands),
        subst (λ o. ShowsCovering name day o t) c.in_default.is covers.1,
      ));
    }

pub returns : goal.returns
returns g c =
    let name = c.args.name.now in
    let day = c.args.day in
    let explanation = c.in_ok-explanation.explanation in
    record {
      call = then_reads (Some explanation) _ c.in_ok-obligation.ensures.call
          c.in_ok-explanation.ensures.call (λ t covers knows. (
            (λ s stands sound form_is lines_are.
                (let its = subst (λ found. KnowsCovering name day found t) c.in-Some.is covers.0 s
                stands in
                let told = knows.0 s stands sound form_is lines_are its.0 in
                (told.1, subst (λ (p : Obligation). Covers p day) (sym told.0) its.1))),
            (
              subst (λ o. ShowsCovering name day (Some o) t) (sym knows.1)
                  (subst (λ found. ShowsCovering name day found t) c.in-Some.is covers.1),
              knows.2,
            ),
          ));
    }
