use Rattle.std.proofs.Common.{List, not, filter, refl, ap, rules, arith}
use Rattle.ftd_rules.specs.declared.Obligation.{Obligation}
use Rattle.ftd_sql.specs.declared.TableName.TheVariants.{Obligations}
use Rattle.ftd_sql.specs.Tests.{is_obligation_between}
use Rattle.ftd_store.specs.Cells.{day_number}
use Rattle.ftd_store.specs.Rows.{obligation_row}
use Rattle.ftd_store.specs.Changes.{with_obligations}
use Rattle.ftd_store.proofs.Going.{call_fails_after, then_writes, writes_same}
use Rattle.ftd_store.proofs.Replaced.{one_more, all_taken}
use Rattle.ftd_store.proofs.tx.Tx.replace_obligations.Goals as goal

pub returns-in_err-add_obligation : goal.returns-in_err-add_obligation
returns-in_err-add_obligation g c = record {
  call = call_fails_after (search rules) c.loop-obligation.invariant
      c.in_err-add_obligation.ensures.call;
}

pub loop-obligation-preserved : goal.loop-obligation-preserved
loop-obligation-preserved g c =
    then_writes _ _ c.loop-obligation.invariant c.in_ok-add_obligation.ensures.call
    (one_more Obligations (λ rows t. refl) (obligation_row c.args.account.now)
    (λ t. filter (λ o. not (is_obligation_between c.args.account.now (day_number c.args.from)
    (day_number c.args.to) o)) (t Obligations)) (λ t. t) c.args.given.now
    c.loop-obligation.obligation-index c.obligation-item.result c.loop-obligation-test.true
    c.obligation-item.is)

pub returns : goal.returns
returns g c =
    let xs : List Obligation = c.args.given.now in
    let all = all_taken xs c.loop-obligation.obligation-index
    (omega (arith, c.loop-obligation-test.false)) in
    record {
      call = writes_same _ c.loop-obligation.invariant
          (λ t n. ap (λ given. with_obligations c.args.account.now c.args.from c.args.to given t n)
          all);
    }
