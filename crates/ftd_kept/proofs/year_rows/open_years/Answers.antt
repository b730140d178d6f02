use Rattle.std.proofs.Common.{map, subst}
use Rattle.ftd_store.specs.Lists.{Pairs}
use Rattle.ftd_entries.proofs.Reading.{three_told}
use Rattle.ftd_kept.specs.Kept.{IsKeptYear, quarter_figure, year_figure}
use Rattle.ftd_kept.proofs.YearsKnown.{knows_years}
use Rattle.ftd_kept.proofs.year_rows.open_years.Goals as goal

pub returns-in-Ok : goal.returns-in-Ok
returns-in-Ok g c =
    let account = c.args.account.now in
    let quarters = c.in_ok-quarters.quarters in
    let years = c.in_ok-years.years in
    let rows = c.in-Ok.rows in
    let pairs = subst (λ ls. Pairs (IsKeptYear account (map quarter_figure quarters.items)
    (map year_figure years.items)) ls rows.items) c.deref.ensures.value
    (subst (λ qs. Pairs (IsKeptYear account (map quarter_figure qs)
    (map year_figure years.items)) c.deref.result.now rows.items) c.deref-2.ensures.value
    (subst (λ ys. Pairs (IsKeptYear account (map quarter_figure c.deref-2.result.now)
    (map year_figure ys)) c.deref.result.now rows.items) c.deref-3.ensures.value
    c.in-Ok.ensures.told)) in
    record {
      call = three_told c.in_ok-lines.ensures.call c.in_ok-quarters.ensures.call
          c.in_ok-years.ensures.call rows _ (λ t of_lines of_quarters of_years. knows_years
          c.args.name.now account _ quarters years rows.items t of_lines of_quarters of_years
          pairs);
    }
