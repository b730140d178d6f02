use Rattle.std.proofs.Common.{◌≡◌, ◌∙◌, subst}
use Rattle.std.specs.List.{sum_by}
use Rattle.ftd_rules.specs.Liability.{cents_of}
use Rattle.ftd_store.proofs.Telling.{reads_on}
use Rattle.ftd_entries.specs.Returns.{KnowsLiability}
use Rattle.ftd_entries.proofs.LiabilityRead.{liability_known}
use Rattle.ftd_entries.proofs.return_periods.liability_of.Goals as goal

pub returns-in-Some : goal.returns-in-Some
returns-in-Some g c =
    let name = c.args.name.now in
    let sums = c.in_ok-sums.sums in
    let total = c.in-Some.total in
    let is : total.0 ≡ sum_by cents_of sums.items = subst (λ xs. total.0 ≡ sum_by cents_of xs)
    c.deref.ensures.value c.in-Some.ensures in
    record {
      call = reads_on total (KnowsLiability name c.args.first c.args.last) c.in_ok-sums.ensures.call
          (λ t lists s stands. is ∙ liability_known name c.args.first c.args.last sums t lists s
          stands);
    }
