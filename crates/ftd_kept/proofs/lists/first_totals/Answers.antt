use Rattle.std.proofs.Common.{◌∙◌, ap, map, sym}
use Rattle.ftd_store.proofs.Telling.{then_reads}
use Rattle.ftd_kept.specs.Kept.{kept_quarter, kept_year}
use Rattle.ftd_kept.proofs.KeptTotals.{quarters_are, years_are}
use Rattle.ftd_kept.proofs.TotalsKnown.{first_told}
use Rattle.ftd_kept.proofs.lists.first_totals.Goals as goal
use Rattle.ftd_kept.proofs.lists.first_totals.Goals.{in-F941, in-F943}

pub returns-in-Ok : goal.returns-in-Ok
returns-in-Ok g c =
    let name = c.args.name.now in
    let rows = c.in-Ok.rows in
    record {
      call = then_reads rows _ c.in_ok-quarters.ensures.call c.in_ok-years.ensures.call
          (λ t of_quarters of_years. elim c.match-form.branch [
            | in-F941 w ↦ first_told name rows t w.in-F941.is (sym w.told-is ∙ c.in-Ok.is)
                w.told_quarters-told.ensures.told w.told_quarters-told.ensures.in_order
                (ap (map kept_quarter) w.deref.ensures.value) (λ s stands sound.
                quarters_are name t s stands sound c.in_ok-quarters.quarters.items of_quarters)
            | in-F943 w ↦ first_told name rows t w.in-F943.is (sym w.told-is ∙ c.in-Ok.is)
                w.told_years-told.ensures.told w.told_years-told.ensures.in_order
                (ap (map kept_year) w.deref-in-F943.ensures.value) (λ s stands sound.
                years_are name t s stands sound c.in_ok-years.years.items of_years)
          ]);
    }
