use Rattle.std.proofs.Common.{◌≡◌, ◌∙◌, ◌++◌, ◌∷◌, ℕ, [], Global, None, Option, Vec}
use Rattle.std.proofs.Common.{ap, rules, subst}
use Rattle.ftd_store.specs.Finds.{FindsCalendar}
use Rattle.ftd_store.proofs.Telling.{reads_on}
use Rattle.ftd_machine.specs.declared.requests.Entry.TheVariants as entry
use Rattle.ftd_machine.specs.declared.requests.Request.TheVariants.{Enter}
use Rattle.ftd_journal.proofs.DaysKnown.{calendar_absent, calendar_added}
use Rattle.ftd_journal.proofs.days.add_calendar.Goals as goal

pub returns-in_default : goal.returns-in_default
returns-in_default g c =
    let year = c.args.year in
    let none : c.in_ok-days.field-0 ≡ None = search rules in
    record {
      call = reads_on tt _ c.in_ok-days.ensures.call (λ t finds.
          calendar_absent Global year c.args.requests.now.items t
          (subst (λ (f : Option (Vec ℕ Global)). FindsCalendar year f t) none finds));
    }

pub returns-in-Ok : goal.returns-in-Ok
returns-in-Ok g c =
    let year = c.args.year in
    let before = c.args.requests.now.items in
    let is = c.in-Ok.ensures ∙ ap (λ ds. before ++ Enter (entry.Calendar year ds) ∷ [])
    c.from_vec-days.ensures in
    record {
      call = reads_on tt _ c.in_ok-days.ensures.call (λ t finds.
          calendar_added year c.in-Some.days before _ t
          (subst (λ (f : Option (Vec ℕ Global)). FindsCalendar year f t) c.in-Some.is finds) is);
    }
