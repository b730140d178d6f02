use Rattle.std.proofs.Common.{List, subst}
use Rattle.ftd_rules.specs.declared.Obligation.{Obligation}
use Rattle.ftd_rules.specs.Obligations.{ByFirstDay}
use Rattle.ftd_sql.specs.Orders.{ObligationsRise}
use Rattle.ftd_store.specs.Rows.{obligation_row}
use Rattle.ftd_store.proofs.Telling.{reads_on}
use Rattle.ftd_repairs.specs.Replaced.{AreBetween}
use Rattle.ftd_repairs.proofs.Differing.{are_listed}
use Rattle.ftd_repairs.proofs.reading.known_obligations.Goals as goal

pub returns : goal.returns
returns g c =
    let name = c.args.account.now in
    let from = c.args.from in
    let to = c.args.to in
    let rows : List Obligation = c.in_ok-rows.rows.items in
    let rise : ByFirstDay rows = subst ByFirstDay c.deref.ensures.value
    (c.rise.ensures c.if-not-rise.false) in
    record {
      call = reads_on c.in_ok-rows.rows (λ rows. AreBetween name from to rows.items)
          c.in_ok-rows.ensures.call (λ t listed. record {
            by_first_day = rise;
            are = are_listed ObligationsRise
                (obligation_row name) _ rows listed;
          });
    }
