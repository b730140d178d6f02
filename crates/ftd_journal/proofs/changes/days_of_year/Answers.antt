use Rattle.std.proofs.Common.{◌≡◌, ℕ, Global, None, Option, Vec, rules, subst}
use Rattle.ftd_store.specs.Finds.{FindsCalendar}
use Rattle.ftd_store.proofs.Telling.{reads_on, then_reads}
use Rattle.ftd_journal.specs.Days.{KnowsDays}
use Rattle.ftd_journal.proofs.DaysKnown.{days_known, no_days}
use Rattle.ftd_journal.proofs.changes.days_of_year.Goals as goal

pub returns-in_default : goal.returns-in_default
returns-in_default g c =
    let year = c.args.year in
    let none : c.in_ok-given.field-0 ≡ None = search rules in
    record {
      call = reads_on c.new.result _ c.in_ok-given.ensures.call (λ t finds.
          subst (λ ds. KnowsDays year ds t) (search rules)
          (no_days Global year t
          (subst (λ (f : Option (Vec ℕ Global)). FindsCalendar year f t) none finds)));
    }

pub returns-in-Ok : goal.returns-in-Ok
returns-in-Ok g c =
    let year = c.args.year in
    let moved = rw c.deref.ensures.value at c.in-Ok.ensures.same in
    record {
      call = then_reads c.in-Ok.days _ c.in_ok-given.ensures.call c.in_ok-added.ensures.call
          (λ t finds lists. days_known year c.in-Some.given c.in_ok-added.added c.in-Ok.days.items
          t (subst (λ (f : Option (Vec ℕ Global)). FindsCalendar year f t) c.in-Some.is finds)
          lists moved
          c.in-Ok.ensures.in_order);
    }
