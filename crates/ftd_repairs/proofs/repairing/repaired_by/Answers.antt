use Rattle.std.proofs.Common.{◌≡◌, ◌≤◌, ◌+◌, ℕ, List, ◌∙◌, subst, arith}
use Rattle.std.specs.List.{sum_by}
use Rattle.ftd_days.specs.Holidays.{holidays_of}
use Rattle.ftd_rules.specs.declared.DaySum.{DaySum}
use Rattle.ftd_rules.specs.declared.Form.{Form}
use Rattle.ftd_rules.specs.declared.YearLine.{YearLine}
use Rattle.ftd_rules.specs.Liability.{cents_of}
use Rattle.ftd_buckets.specs.declared.Window.{Window}
use Rattle.ftd_buckets.specs.declared.state.Next.TheVariants.{Need}
use Rattle.ftd_buckets.specs.Ready.{Repairing}
use Rattle.ftd_buckets.specs.Standing.{amount_held}
use Rattle.ftd_repairs.specs.Repaired.{SumsAre}
use Rattle.ftd_repairs.proofs.Fed.{Needs, Ends, needs, ends, first_needed, told_within, more_where}
use Rattle.ftd_repairs.proofs.Fed.{last_where}
use Rattle.ftd_repairs.proofs.repairing.repaired_by.Goals as goal

pub loop-init : goal.loop-init
loop-init c =
    let begun = c.begin-repair.ensures in
    let none = begun.held in
    record {
      form = begun.form;
      asked = begun.asked;
      held = omega arith;
      small = omega arith;
      serves = λ before after change last sums. (
        begun.stands before after change last,
        first_needed c.args.form c.args.day before after c.args.lines.now begun.window.1
            begun.window.0 c.begin-repair.result.1 last begun.window.2 begun.window.3,
      );
    }

pub loop-preserved : goal.loop-preserved
loop-preserved c =
    let form = c.args.form in
    let day = c.args.day in
    let lines : List YearLine = c.args.lines.now in
    let holidays : List ℕ = holidays_of c.args.holidays.now in
    let all : List DaySum = c.args.sums.now in
    let inv = c.loop.invariant in
    let w : Window = c.loop.window in
    let known = c.in_ok-known.ensures in
    let sums : List DaySum = c.in_ok-known.known.sums.items in
    let fed = c.in_ok-patch.ensures in
    let r : Repairing = c.loop.repair in
    let next : Repairing = c.in-Need.next in
    let after : Window = c.in-Need.asked in
    let total = known.total in
    let held_then = inv.held in
    let is : c.in_ok-patch.field-0 ≡ Need next after = c.in-Need.is in
    let held_now : amount_held next ≤ amount_held r + sum_by cents_of sums =
    needs (λ q v. amount_held q ≤ amount_held r + sum_by cents_of sums) c.in_ok-patch.field-0 next
    after is
    (rw c.deref.ensures.value at fed.held) in
    let needed : Needs r.form r sums next after = needs (Needs r.form r sums) c.in_ok-patch.field-0
    next after is (rw c.deref.ensures.value at fed.need) in
    let need : Needs form r sums next after = subst (λ (f : Form). Needs f r sums next after)
    inv.form needed in
    record {
      form = needs (λ q v. q.form ≡ r.form) c.in_ok-patch.field-0 next after is fed.form ∙ inv.form;
      asked = needs (λ q v. q.asked ≡ v) c.in_ok-patch.field-0 next after is fed.asked;
      held = omega arith;
      small = known.small;
      serves = more_where (SumsAre form day all) form day lines holidays r w sums
          (told_within form day w all sums known.within) inv.asked inv.serves next after need;
    }

pub returns-in-Done : goal.returns-in-Done
returns-in-Done c =
    let inv = c.loop.invariant in
    let w : Window = c.loop.window in
    let sums : List DaySum = c.in_ok-known.known.sums.items in
    let r : Repairing = c.loop.repair in
    let patch = c.in-Done.patch in
    let done : Ends r.form r sums patch = ends (Ends r.form r sums) c.in_ok-patch.field-0 patch
    c.in-Done.is (rw c.deref.ensures.value at c.in_ok-patch.ensures.done) in
    let end : Ends c.args.form r sums patch =
    subst (λ (f : Form). Ends f r sums patch) inv.form done in
    last_where _ _ _ c.args.lines.now (holidays_of c.args.holidays.now) r w sums
    (told_within c.args.form c.args.day w c.args.sums.now sums c.in_ok-known.ensures.within)
    inv.asked inv.serves patch end
