use Rattle.std.proofs.Common.{◌∙◌, ◌≡◌, ap, subst, ℕ, List, ◌↔◌}
use Rattle.std.specs.Prelude.{IsTrue}
use Rattle.std.specs.List.{list_all}
use Rattle.ftd_machine.specs.Sound.{AreDistinct}
use Rattle.ftd_sound.specs.Private.Calendars.{day_itself, has_few_days}
use Rattle.ftd_sound.specs.Private.Calendars.{is_changeable}
use Rattle.ftd_sound.proofs.Decided.{all, sound_where}
use Rattle.ftd_sound.proofs.days.days_are_sound.Goals as goal

pub returns : goal.returns
returns c =
    let calendars = c.args.calendars.now in
    let added = c.args.added.now in
    let changes = c.args.changes.now in
    let one : c.deref.result.now ≡ all calendars added = c.deref.ensures.value
    ∙ c.in_ok-all.ensures in
    let two : c.deref-2.result.now ≡ all calendars added = c.deref-2.ensures.value
    ∙ c.in_ok-all.ensures in
    let three : c.deref-3.result.now ≡ all calendars added = c.deref-3.ensures.value
    ∙ c.in_ok-all.ensures in
    let few = c.are_few.ensures
    ∙ ap (λ (days : List ℕ). list_all (has_few_days days) calendars) one in
    let once = subst (λ (days : List ℕ). IsTrue c.are_once.result ↔ AreDistinct day_itself days) two
    c.are_once.ensures in
    let changed = c.are_changeable.ensures
    ∙ ap (λ (days : List ℕ). list_all (is_changeable days) changes) three in
    sound_where calendars added changes c.are_of_own_years.result c.are_once.result
    c.are_of_own_years.ensures once c.all_hold.result
    (rw (c.all_fit.ensures, c.are_in_calendars.ensures, few, changed, c.are_few_changes.ensures) at
    c.all_hold.ensures)
