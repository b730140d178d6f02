use Rattle.std.proofs.Common.{ℕ, List}
use Rattle.ftd_days.specs.Holidays.{holidays_of}
use Rattle.ftd_store.specs.Holidays.{AddsYear}
use Rattle.ftd_store.proofs.Telling.{reads_on}
use Rattle.ftd_store.proofs.tx.Tx.add_given.Goals as goal

pub returns-then-branch : goal.returns-then-branch
returns-then-branch g c =
    let year = c.args.year in
    let old : List ℕ = holidays_of c.args.holidays.now in
    let new : List ℕ = holidays_of c.add_holidays.new.holidays in
    record {
      call = reads_on _ (λ done. AddsYear year old new) c.in_ok-add_holidays.ensures.call
          (λ t adds. rw c.if-branch.true at adds);
    }
