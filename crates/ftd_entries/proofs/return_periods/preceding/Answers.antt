use Rattle.std.proofs.Common.{◌≡◌, ◌-◌, None, arith}
use Rattle.ftd_store.proofs.Telling.{reads_on}
use Rattle.ftd_entries.proofs.Preceding.{on_941, on_943}
use Rattle.ftd_entries.proofs.return_periods.preceding.Goals as goal

pub returns-in-F941 : goal.returns-in-F941
returns-in-F941 g c =
    let before : c.at.result ≡ c.args.quarter - 1 = (let at = c.at.ensures in
    let count = c.quarters.ensures.value in omega arith) in
    record {
      call = reads_on c.in_ok-found.found _ c.in_ok-found.ensures.call (λ t knows.
          on_941 c.args.name.now c.args.form c.args.quarter c.at.result _ t c.in-F941.is before
          knows);
    }

pub returns-in-F943 : goal.returns-in-F943
returns-in-F943 g c = record {
  call = reads_on None _ c.in_ok-found.ensures.call
      (λ t knows. on_943 c.args.name.now c.args.form c.args.quarter t c.in-F943.is);
}
