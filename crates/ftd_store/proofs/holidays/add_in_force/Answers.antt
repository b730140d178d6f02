use Rattle.std.proofs.Common.{◌||◌, ◌∙◌, sym, ap, Result, Ok, Err}
use Rattle.std.specs.Prelude.{OnOk}
use Rattle.ftd_days.specs.Business.{is_holiday}
use Rattle.ftd_days.specs.Holidays.{holidays_of}
use Rattle.ftd_store.proofs.AddedYears.{both_elsewhere, both_kept}
use Rattle.ftd_store.proofs.holidays.add_in_force.Goals as goal

on_both : {A E P Q R : Type 0} (result : Result A E) → (P → Q → R) → OnOk result P → OnOk result Q
    → OnOk result R
on_both (Ok x) f p q = f p q
on_both (Err e) f p q = tt

pub returns-clause-same : goal.returns-clause-same
returns-clause-same c =
    let given = c.args.given.now in
    let added = c.args.added.now in
    let changes = c.args.changes.now in
    let old = is_holiday (holidays_of c.args.holidays.now) in
    let new = is_holiday (holidays_of c.add_both.new.holidays) in
    let same = rw (
      c.deref.ensures.value,
      c.deref-2.ensures.value,
      c.in_ok-given.ensures,
      c.in_ok-added.ensures,
    ) at c.add_both.ensures.same in
    on_both c.add_both.result
    (λ one two day. one day ∙ ap (λ b. old day || b) (both_kept given added changes day)) same same

pub returns-clause-elsewhere : goal.returns-clause-elsewhere
returns-clause-elsewhere c =
    let given = c.args.given.now in
    let added = c.args.added.now in
    let changes = c.args.changes.now in
    let year = c.args.year in
    let of_given = rw (c.deref.ensures.value, c.in_ok-given.ensures) at
    c.add_both.ensures.given in
    let of_added = rw (c.deref-2.ensures.value, c.in_ok-added.ensures) at
    c.add_both.ensures.added in
    on_both c.add_both.result
    (λ one two day other. sym (both_kept given added changes day)
    ∙ both_elsewhere year _ _ one two day other) of_given of_added
