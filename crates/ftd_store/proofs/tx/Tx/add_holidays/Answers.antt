use Rattle.std.proofs.Common.{rules, ◌≡◌, ℕ, List, Option, None, Vec, Global, true, false, refl}
use Rattle.std.proofs.Common.{subst}
use Rattle.ftd_days.specs.Holidays.{holidays_of}
use Rattle.ftd_store.specs.Finds.{FindsCalendar, ListsAdded}
use Rattle.ftd_store.specs.Holidays.{AddsIfGiven}
use Rattle.ftd_store.proofs.Telling.{reads_on, then_reads}
use Rattle.ftd_store.proofs.tx.Tx.add_holidays.Goals as goal

pub returns-in_default : goal.returns-in_default
returns-in_default g c =
    let year = c.args.year in
    let old : List ℕ = holidays_of c.args.holidays.now in
    let found = c.in_ok-given.field-0 in
    let none : found ≡ None = search rules in
    record {
      call = reads_on false (AddsIfGiven year old old) c.in_ok-given.ensures.call (λ t finds. (
        subst (λ (f : Option (Vec ℕ Global)). FindsCalendar year f t) none finds,
        refl,
      ));
    }

pub returns-in-Ok : goal.returns-in-Ok
returns-in-Ok g c =
    let year = c.args.year in
    let old : List ℕ = holidays_of c.args.holidays.now in
    let new : List ℕ = holidays_of c.add_in_force.new.holidays in
    let made = c.in-Ok.ensures in
    let found : Option (Vec ℕ Global) × Vec ℕ Global =
    (c.in_ok-given.field-0, c.in_ok-added.added) in
    record {
      call = then_reads true (AddsIfGiven year old new)
          (then_reads found (λ found t. FindsCalendar year found.0 t × ListsAdded year found.1 t)
          c.in_ok-given.ensures.call c.in_ok-added.ensures.call (λ t finds lists. (finds, lists)))
          c.in_ok-changes.ensures.call
          (λ t had lists. record {
            to = made.year;
            given = c.in-Some.given;
            is_given = subst (λ found. FindsCalendar year found t) c.in-Some.is had.0;
            added = c.in_ok-added.added;
            are_added = had.1;
            changes = c.in_ok-changes.changes;
            are_changes = lists;
            same = rw (c.deref.ensures.value, c.deref-2.ensures.value, c.deref-3.ensures.value)
                at made.same;
            elsewhere = rw (
              c.deref.ensures.value,
              c.deref-2.ensures.value,
              c.deref-3.ensures.value,
            ) at made.elsewhere;
          });
    }
