-- What stands in order from each to the next stands so to all after it.
use Rattle.std.proofs.Common.{◌≡◌, true, List, arith}
use Rattle.std.proofs.lemmas.Bool.{ltb-true}
use Rattle.ftd_entries.proofs.InOrder.{in_order, two_before}
use Rattle.ftd_rules.specs.Lists.{are_in_order}
use Rattle.ftd_machine.specs.Agenda.{EachToLater}
use Rattle.ftd_machine.specs.Kept.{IsRunBefore, IsTotalBefore}
use Rattle.ftd_machine.specs.Kept.{period_number}
use Rattle.ftd_machine.specs.declared.kept.KeptRun.{KeptRun}
use Rattle.ftd_machine.specs.declared.kept.KeptTotal.{KeptTotal}
use Rattle.ftd_machine.proofs.KeptOne.{payday_of, run_number}
use Rattle.ftd_machine.proofs.KeptOne.{two_then}
use Rattle.ftd_kept.specs.Kept.{is_run_before}
use Rattle.ftd_kept.specs.Kept.{is_total_before}

pub runs_in_order : (xs : List KeptRun) → are_in_order is_run_before xs ≡ true
    → EachToLater IsRunBefore xs
runs_in_order xs e =
    in_order is_run_before IsRunBefore (two_before payday_of run_number)
    (two_then payday_of run_number) xs e

pub totals_in_order : (xs : List KeptTotal) → are_in_order is_total_before xs ≡ true
    → EachToLater IsTotalBefore xs
totals_in_order xs e =
    in_order is_total_before IsTotalBefore (λ x y e. ltb-true (period_number x.period)
    (period_number y.period) e)
    (λ x y z g h. omega arith) xs e
