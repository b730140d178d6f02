use Rattle.std.proofs.Common.{◌≡◌, ◌∙◌, None, Some, ap, refl, rules, subst}
use Rattle.std.specs.Prelude.{is_some, option_map}
use Rattle.ftd_store.specs.Finds.{FindsCalendar}
use Rattle.ftd_store.proofs.Telling.{then_reads}
use Rattle.ftd_machine.specs.Checks.{first_of}
use Rattle.ftd_machine.specs.Told.{kept_answer}
use Rattle.ftd_machine.specs.Requests.{holidays_checks}
use Rattle.ftd_machine.specs.State.{calendar_at}
use Rattle.ftd_machine.specs.declared.kept.KeptRows.TheVariants as rows
use Rattle.ftd_machine.specs.declared.requests.KeptList.TheVariants as kept
use Rattle.ftd_machine.specs.declared.requests.Question.TheVariants as questions
use Rattle.ftd_machine.specs.declared.requests.Request.TheVariants.{Question}
use Rattle.ftd_machine.proofs.Deciding.{decided, passed}
use Rattle.ftd_entries.proofs.CalendarRows.{calendar_known, days_found}
use Rattle.ftd_entries.proofs.Serving.{served_looked}
use Rattle.ftd_entries.proofs.KnownYears.{mapped_some}
use Rattle.ftd_kept.specs.Kept.{KnowsHolidays}
use Rattle.ftd_kept.proofs.lists.holidays.Goals as goal

pub returns-in-Err : goal.returns-in-Err
returns-in-Err g c =
    let year = c.args.year in
    let given = c.in_ok-given.given in
    let is : first_of (holidays_checks year (is_some given)) ≡ Some c.in-Err.answer =
    search rules in
    record {
      call = served_looked (Question (questions.Kept (kept.Holidays year))) c.in-Err.answer
          c.in_ok-given.ensures.call (λ t s stands sound finds. decided _ s c.in-Err.answer _
          (ap (λ b. first_of (holidays_checks year b))
          (ap is_some (calendar_known year given t s stands sound finds)
          ∙ mapped_some days_found given) ∙ is));
    }

pub returns : goal.returns
returns g c =
    let year = c.args.year in
    let given = c.in_ok-given.given in
    let days = c.in-Some.days in
    let listed = c.in_ok-rows.rows in
    let read = then_reads given
    (λ o t. FindsCalendar year o t × KnowsHolidays year days.items listed.items t)
    c.in_ok-given.ensures.call c.in_ok-rows.ensures.call (λ t finds knows. (
      finds,
      subst (λ ds. KnowsHolidays year ds listed.items t) c.deref.ensures.value knows,
    )) in
    let is : first_of (holidays_checks year (is_some given)) ≡ None = search rules in
    let answer = kept_answer (rows.Holidays c.args.year c.from_vec.result) in
    record {
      call = served_looked (Question (questions.Kept (kept.Holidays year))) answer read
          (λ t s stands sound knows.
          (let known = calendar_known year given t s stands sound knows.0 in
          let found : calendar_at s year ≡ Some days.items =
          known ∙ ap (option_map days_found) c.in-Some.is in
          passed _ s answer s _
          (ap (λ b. first_of (holidays_checks year b))
          (ap is_some known ∙ mapped_some days_found given) ∙ is) (
            refl,
            record {
              given = days.items;
              is_given = found;
              added = knows.1.added;
              rising = knows.1.rising;
              all = knows.1.all s stands;
              told = ap (λ xs. kept_answer (rows.Holidays c.args.year xs))
                  (c.from_vec.ensures ∙ knows.1.told s stands sound found);
            },
          )));
    }
