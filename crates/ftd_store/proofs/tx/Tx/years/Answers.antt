use Rattle.std.proofs.Common.{Ok, sym, subst, rules}
use Rattle.ftd_sql.specs.declared.TableName.TheVariants.{Years}
use Rattle.ftd_sql.specs.Orders.{YearsRise}
use Rattle.ftd_sql.proofs.Meanings.{years_in_order}
use Rattle.ftd_rules.specs.Years.{OnlyFirstCarried}
use Rattle.ftd_store.specs.Lists.{Lists}
use Rattle.ftd_store.specs.Years.{is_carried, FirstCarriedAs}
use Rattle.ftd_store.proofs.OpenYears.{only_first_carried, carried_as}
use Rattle.ftd_store.specs.Finds.{IsYear}
use Rattle.ftd_store.proofs.Telling.{lists, then_reads}
use Rattle.ftd_store.proofs.YearRows.{IsStoredYear, stored_year_is, lines_listed}
use Rattle.ftd_store.proofs.tx.Tx.years.Goals as goal

pub returns-in-Ok : goal.returns-in-Ok
returns-in-Ok g c =
    let who = c.args.account.now in
    let found = c.in_ok-found.found in
    let stored = c.in_ok-stored.stored in
    let listed = lists {g = g.S.Store} {old = c.account_in_force.new.self}
    {new = c.read_all.new.self} {result = Ok stored} (λ xs. xs.items) Years _ (IsStoredYear who)
    (years_in_order who)
    (stored_year_is who) (search rules) in
    let is = rw c.deref.ensures.value at c.in-Ok.ensures.lines in
    let there = rw c.deref.ensures.value at c.in-Ok.ensures.there in
    record {
      call = then_reads c.in-Ok.lines _ c.in_ok-found.ensures.call listed
          (λ t account years. record {
            listed = subst (Lists YearsRise (IsYear who) _) (sym is)
                (lines_listed who (is_carried found) _ stored.items years);
            whole = c.in-Ok.ensures.whole;
            turns = c.in-Ok.ensures.turns;
            first = (
              found,
              account,
              subst (FirstCarriedAs found) (sym is)
                  (carried_as found stored.items there),
            );
            others = subst OnlyFirstCarried (sym is)
                (only_first_carried (is_carried found) stored.items);
          });
    }
