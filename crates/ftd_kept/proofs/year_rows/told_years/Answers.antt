use Rattle.std.proofs.Common.{◌≡◌, ◌<◌, ℕ, List, length, Result, Err, Vec, Global, rules, subst}
use Rattle.std.proofs.Common.{sym}
use Rattle.std.specs.Prelude.{IfErr}
use Rattle.ftd_rules.specs.declared.YearLine.{YearLine}
use Rattle.ftd_store.specs.declared.faults.StoreFault.{StoreFault}
use Rattle.ftd_store.specs.declared.faults.StoreFault.TheVariants.{Failed}
use Rattle.ftd_store.proofs.Items.{has_at}
use Rattle.ftd_machine.specs.declared.kept.KeptYear.{KeptYear}
use Rattle.ftd_kept.specs.Kept.{LacksOne}
use Rattle.ftd_kept.proofs.year_rows.told_years.Goals as goal

pub returns-in_err-first_lookback-clause-failed : goal.returns-in_err-first_lookback-clause-failed
returns-in_err-first_lookback-clause-failed c =
    let lines : List YearLine = c.args.lines.now in
    let i : ℕ = c.loop-line.line-index in
    let line : YearLine = c.line-item.result in
    let some : i < length lines = c.loop-line-test.true in
    let lacks = LacksOne c.args.account.now c.args.quarters.now c.args.years.now lines in
    let failed : c.from_residual.result ≡ Err c.in_err-first_lookback.field-0.0 = search rules in
    subst (λ (r : Result (Vec KeptYear Global) StoreFault).
    IfErr r (λ fault. fault ≡ Failed → lacks)) (sym failed)
    (λ is. (line, has_at lines i line some c.line-item.is, c.in_err-first_lookback.ensures.failed))
