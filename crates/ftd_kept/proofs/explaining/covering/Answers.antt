use Rattle.std.proofs.Common.{◌≡◌, ◌∙◌, ◌≤◌, List, subst}
use Rattle.std.specs.Prelude.{MatchOption}
use Rattle.ftd_days.proofs.Months.{month_start-zero}
use Rattle.ftd_rules.specs.declared.Obligation.{Obligation}
use Rattle.ftd_rules.specs.Lists.{Has}
use Rattle.ftd_store.proofs.Telling.{reads_on}
use Rattle.ftd_entries.specs.Owed.{KnowsObligations}
use Rattle.ftd_entries.proofs.OwedRows.{obligations_known}
use Rattle.ftd_kept.specs.Explained.{KnowsCovering, ShowsCovering}
use Rattle.ftd_kept.proofs.ExplainedKnown.{covering_known}
use Rattle.ftd_kept.proofs.TablesExplained.{covering_shown}
use Rattle.ftd_kept.proofs.explaining.covering.Goals as goal

pub returns : goal.returns
returns g c =
    let name = c.args.name.now in
    let day = c.args.day in
    let begun = c.in_ok-begun.begun in
    let found = c.ends_from.result in
    let first : c.first_of_month.result ≡ 0 =
    c.first_of_month.ensures.value ∙ month_start-zero in
    let ends : MatchOption found ((o : Obligation) → Has begun.items o → day ≤ o.last → ⊥)
    (λ o. Has begun.items o × (day ≤ o.last)) =
    subst (λ (os : List Obligation). MatchOption found
    ((o : Obligation) → Has os o → day ≤ o.last → ⊥) (λ o. Has os o × (day ≤ o.last)))
    c.deref.ensures.value c.ends_from.ensures in
    record {
      call = reads_on found (λ of t. KnowsCovering name day of t × ShowsCovering name day of t)
          c.in_ok-begun.ensures.call (λ t lists. (
            covering_known name day begun.items found ends t
                (subst (λ n. KnowsObligations name n day begun.items t) first
                (obligations_known name c.first_of_month.result day begun t lists)),
            covering_shown name c.first_of_month.result day begun found ends first t lists,
          ));
    }
