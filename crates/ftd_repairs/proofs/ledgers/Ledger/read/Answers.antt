use Rattle.std.proofs.Common.{Vec, Global, refl}
use Rattle.ftd_rules.specs.declared.DaySum.{DaySum}
use Rattle.ftd_sql.specs.Standing.{Tables}
use Rattle.ftd_store.specs.Finds.{ListsLiability}
use Rattle.ftd_store.proofs.Telling.{then_reads}
use Rattle.ftd_repairs.specs.Calendars.{KnowsYears}
use Rattle.ftd_repairs.specs.Reposted.{KnowsLedger}
use Rattle.ftd_repairs.proofs.ledgers.Ledger.read.Goals as goal

pub returns : goal.returns
returns g c =
    let name = c.args.account.now in
    let first = c.args.days.from in
    let last = c.args.days.to in
    let years = c.in_ok-years.years in
    let sums = c.in_ok-sums.sums in
    let rows = c.in_ok-rows.rows in
    let summed = λ (k : Vec DaySum Global) (t : Tables). KnowsYears name first years t
    × ListsLiability name first last k t in
    record {
      call = then_reads _ (KnowsLedger name c.args.days)
          (then_reads sums summed c.in_ok-years.ensures.call c.in_ok-sums.ensures.call
          (λ t one two. (one, two)))
          c.in_ok-rows.ensures.call
          (λ t told owed. record { years = told.0; since = refl; sums = told.1; rows = owed });
    }
