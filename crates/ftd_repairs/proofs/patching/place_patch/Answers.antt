use Rattle.std.proofs.Common.{◌≡◌, ◌∙◌, List, subst, sym}
use Rattle.ftd_rules.specs.declared.Obligation.{Obligation}
use Rattle.ftd_rules.specs.declared.YearLine.{YearLine}
use Rattle.ftd_rules.specs.Obligations.{ByFirstDay}
use Rattle.ftd_store.proofs.Turning.{turns_on}
use Rattle.ftd_rules.specs.Lists.{KeysRise}
use Rattle.ftd_machine.specs.History.{year_of_line}
use Rattle.ftd_machine.specs.Posting.{AreOnOtherSchedules, Differ}
use Rattle.ftd_machine.proofs.Those.{lines_in_order}
use Rattle.ftd_repairs.specs.Replaced.{AreBetween, with_years}
use Rattle.ftd_repairs.specs.Rescheduled.{AreAfter, HasLines}
use Rattle.ftd_repairs.specs.Reposted.{Places}
use Rattle.ftd_repairs.proofs.Putting.{years_after}
use Rattle.ftd_repairs.proofs.patching.place_patch.Goals as goal

pub returns : goal.returns
returns g c =
    let name = c.args.account.now in
    let day = c.args.day in
    let lines : List YearLine = c.args.lines.now in
    let after : List YearLine = c.put_patch.new.lines in
    let patch = c.args.patch.now in
    let gone : List Obligation = c.args.gone.now in
    let compared = c.in-Ok-difference.difference in
    let d = c.in-Ok-with_years.told in
    let differ : ByFirstDay gone → ByFirstDay patch.rows → Differ gone patch.rows day compared =
    rw c.as_slice-2.ensures at c.in-Ok-difference.ensures in
    let is : d ≡ with_years compared d.years = c.in-Ok-with_years.ensures.rows in
    let years : KeysRise year_of_line after → AreOnOtherSchedules lines after d.years =
    let was : c.deref.result.now ≡ lines = c.deref.ensures.value ∙ c.in-Ok.ensures.items in
    subst (λ (ls : List YearLine). KeysRise year_of_line after → AreOnOtherSchedules ls after d.years)
    was c.in-Ok-with_years.ensures.years in
    record {
      call = turns_on d (λ e t u. AreBetween name patch.from patch.to gone t → HasLines name lines t
          → Places name day lines patch after e t u) c.in_ok-put_patch.ensures.call
          (λ t u puts between had. record {
            compared = record {
              gone = gone;
              are_gone = between;
              differ = λ rise. (let differs = differ between.by_first_day rise in
                  subst (Differ gone patch.rows day) (sym is) (record {
                    are_removed = differs.are_removed;
                    are_added = differs.are_added;
                    days = differs.days;
                  }));
            };
            put = puts between had;
            years =
                (let are : AreAfter lines patch.years after =
                subst (AreAfter lines patch.years) (sym (puts between had).1)
                (puts between had).0.are_after in
                years (lines_in_order had.1.0 after
                (years_after had.1.0 patch.years lines after are had.1.2)));
          });
    }
