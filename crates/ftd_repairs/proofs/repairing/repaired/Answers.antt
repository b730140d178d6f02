use Rattle.std.proofs.Common.{◌≡◌, ◌≤◌, ◌+◌, List, inl, inr, refl, ◌∙◌, subst, arith}
use Rattle.std.specs.List.{sum_by}
use Rattle.ftd_rules.specs.declared.DaySum.{DaySum}
use Rattle.ftd_rules.specs.declared.Form.{Form}
use Rattle.ftd_rules.specs.Liability.{cents_of}
use Rattle.ftd_buckets.specs.declared.Window.{Window}
use Rattle.ftd_buckets.specs.declared.state.Next.TheVariants.{Need}
use Rattle.ftd_buckets.specs.Ready.{Repairing}
use Rattle.ftd_buckets.specs.Standing.{amount_held}
use Rattle.ftd_repairs.proofs.Begun.{begun_reads}
use Rattle.ftd_repairs.proofs.Fed.{Needs, Ends, needs, ends, first_needed, serves_more}
use Rattle.ftd_repairs.proofs.Fed.{serves_last}
use Rattle.ftd_repairs.proofs.repairing.repaired.Goals as goal

pub loop-init : goal.loop-init
loop-init g c =
    let begun = c.begin-repair.ensures in
    record {
      form = begun.form;
      asked = begun.asked;
      held = omega (arith, begun.held);
      small = omega (arith, begun.held);
      begun = inl (
        refl,
        λ t before after change last runs. (
          begun.stands before after change last,
          first_needed c.args.form c.args.day before after c.args.lines.now begun.window.1
              begun.window.0 c.begin-repair.result.1 last begun.window.2 begun.window.3,
        ),
      );
    }

pub returns-in-Ok-Done : goal.returns-in-Ok-Done
returns-in-Ok-Done g c =
    let inv = c.loop.invariant in
    let w : Window = c.loop.window in
    let sums : List DaySum = c.in_ok-read.read.sums.items in
    let r : Repairing = c.loop.repair in
    let patch = c.in-Ok-Done.patch in
    let done : Ends r.form r sums patch = ends (Ends r.form r sums) c.in-Ok-Done.field-0 patch
    c.in-Ok-Done.field-0-is (rw c.deref.ensures.value at c.in-Ok-Done.ensures.done) in
    let end : Ends c.args.form r sums patch =
    subst (λ (f : Form). Ends f r sums patch) inv.form done in
    record {
      call = begun_reads g.S.Store c.args.tx.now c.loop.tx c.window_sums.new.tx c.in_ok-read.read
          patch _ _ _
          (λ t so_far read. serves_last _ _ _ _ _ r w sums patch t inv.asked end so_far read)
          inv.begun c.in_ok-read.ensures.call;
    }

pub loop-preserved : goal.loop-preserved
loop-preserved g c =
    let inv = c.loop.invariant in
    let w : Window = c.loop.window in
    let sums : List DaySum = c.in_ok-read.read.sums.items in
    let fed = c.in-Ok-Need.ensures in
    let r : Repairing = c.loop.repair in
    let next : Repairing = c.in-Ok-Need.next in
    let after : Window = c.in-Ok-Need.asked in
    let total = c.in_ok-read.ensures.total in
    let held_then = inv.held in
    let is : c.in-Ok-Need.field-0 ≡ Need next after = c.in-Ok-Need.field-0-is in
    let held_now : amount_held next ≤ amount_held r + sum_by cents_of sums =
    needs (λ q v. amount_held q ≤ amount_held r + sum_by cents_of sums) c.in-Ok-Need.field-0 next
    after is
    (rw c.deref.ensures.value at fed.held) in
    let needed : Needs r.form r sums next after = needs (Needs r.form r sums) c.in-Ok-Need.field-0
    next after is (rw c.deref.ensures.value at fed.need) in
    let need : Needs c.args.form r sums next after =
    subst (λ (f : Form). Needs f r sums next after) inv.form needed in
    record {
      form = needs (λ q v. q.form ≡ r.form) c.in-Ok-Need.field-0 next after is fed.form ∙ inv.form;
      asked = needs (λ q v. q.asked ≡ v) c.in-Ok-Need.field-0 next after is fed.asked;
      held = omega arith;
      small = c.in_ok-read.ensures.small;
      begun = inr (begun_reads g.S.Store c.args.tx.now c.loop.tx c.window_sums.new.tx
          c.in_ok-read.read tt _ _ _
          (λ t so_far read. serves_more _ _ _ _ _ r next w after sums t inv.asked need so_far read)
          inv.begun c.in_ok-read.ensures.call);
    }
