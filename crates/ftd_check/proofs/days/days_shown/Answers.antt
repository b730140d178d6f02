use Rattle.std.proofs.Common.{◌≡◌, ◌∙◌, ap, sym, map}
use Rattle.ftd_sound.specs.Days.{calendar_in, change_in}
use Rattle.ftd_check.proofs.DaysKept.{all_sound, not_added, not_days, not_numbered, not_sound}
use Rattle.ftd_check.proofs.DaysKept.{calendars, changes, days, decided_as, sound_as}
use Rattle.ftd_check.proofs.days.days_shown.Goals as goal

pub returns-then-not-are_days_of : goal.returns-then-not-are_days_of
returns-then-not-are_days_of c =
    not_days c.args.rows.now
    (rw (
      c.if-not-are_days_of.true,
      c.deref-4.ensures.value,
      c.deref-3.ensures.value,
      c.in_ok-calendars.ensures,
      c.deref.ensures.value,
      c.deref-2.ensures.value,
    ) at
    c.are_days_of.ensures)

pub returns-then-not-are_of_own_years : goal.returns-then-not-are_of_own_years
returns-then-not-are_of_own_years c =
    not_added c.args.rows.now (rw c.deref-5.ensures.value at
    (sym c.are_of_own_years.ensures ∙ c.if-not-are_of_own_years.true))

pub returns-then-not-are_numbered : goal.returns-then-not-are_numbered
returns-then-not-are_numbered c =
    not_numbered c.args.rows.now (rw c.deref-6.ensures.value at
    (sym c.are_numbered.ensures ∙ c.if-not-are_numbered.true))

pub returns-then-not-are_sound : goal.returns-then-not-are_sound
returns-then-not-are_sound c =
    let rows = c.args.rows.now in
    let one : map calendar_in c.deref-9.result.now ≡ calendars rows =
    ap (map calendar_in) c.deref-9.ensures.value
    ∙ (rw (c.deref.ensures.value, c.deref-2.ensures.value) at c.in_ok-calendars.ensures) in
    let two : c.deref-10.result.now ≡ days rows = c.deref-10.ensures.value
    ∙ (rw c.deref-7.ensures.value at c.in_ok-added.ensures) in
    let three : map change_in c.deref-11.result.now ≡ changes rows =
    ap (map change_in) c.deref-11.ensures.value
    ∙ (rw c.deref-8.ensures.value at c.in_ok-changes.ensures) in
    not_sound rows (rw c.if-not-are_sound.true at
    (decided_as rows _ _ _ one two three c.in_ok-are_sound.are_sound c.in_ok-are_sound.ensures))

pub returns : goal.returns
returns c =
    let rows = c.args.rows.now in
    let first : map calendar_in c.in_ok-calendars.calendars.items ≡ calendars rows =
    rw (c.deref.ensures.value, c.deref-2.ensures.value) at c.in_ok-calendars.ensures in
    let second : c.in_ok-added.added.items ≡ days rows =
    rw c.deref-7.ensures.value at c.in_ok-added.ensures in
    let third : map change_in c.in_ok-changes.changes.items ≡ changes rows =
    rw c.deref-8.ensures.value at c.in_ok-changes.ensures in
    let one : map calendar_in c.deref-9.result.now ≡ calendars rows =
    ap (map calendar_in) c.deref-9.ensures.value ∙ first in
    let two : c.deref-10.result.now ≡ days rows = c.deref-10.ensures.value ∙ second in
    let three : map change_in c.deref-11.result.now ≡ changes rows =
    ap (map change_in) c.deref-11.ensures.value ∙ third in
    let decided = decided_as rows _ _ _ one two three c.in_ok-are_sound.are_sound
    c.in_ok-are_sound.ensures in
    let are_days = rw (
      c.deref-4.ensures.value,
      c.deref-3.ensures.value,
      c.in_ok-calendars.ensures,
      c.deref.ensures.value,
      c.deref-2.ensures.value,
    ) at c.are_days_of.ensures in
    sound_as rows _ _ _ first second third
    (all_sound rows (are_days.0 c.if-not-are_days_of.false)
    (rw c.deref-5.ensures.value at
    (sym c.are_of_own_years.ensures ∙ c.if-not-are_of_own_years.false))
    (rw c.deref-6.ensures.value at
    (sym c.are_numbered.ensures ∙ c.if-not-are_numbered.false))
    (decided.0 c.if-not-are_sound.false))
