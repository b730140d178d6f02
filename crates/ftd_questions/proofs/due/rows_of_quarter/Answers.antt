use Rattle.std.proofs.Common.{◌≡◌, List, ◌∙◌, ap, subst}
use Rattle.std.specs.Prelude.{filter}
use Rattle.std.specs.List.{list_any}
use Rattle.ftd_days.specs.Holidays.{holidays_of}
use Rattle.ftd_rules.specs.declared.Obligation.{Obligation}
use Rattle.ftd_store.specs.Lists.{Pairs}
use Rattle.ftd_store.proofs.Going.{then_goes}
use Rattle.ftd_store.proofs.Telling.{then_reads}
use Rattle.ftd_store.proofs.Turning.{gave_up_after}
use Rattle.ftd_questions.specs.DueRows.{IsRowBy, begins_in, is_next_day_row}
use Rattle.ftd_questions.proofs.DueListed.{return_known}
use Rattle.ftd_questions.proofs.DueTold.{due_known}
use Rattle.ftd_entries.proofs.OwedRows.{obligations_known}
use Rattle.ftd_questions.proofs.Shown.{rows_shown}
use Rattle.ftd_questions.proofs.due.rows_of_quarter.Goals as goal

pub returns-in-Ok : goal.returns-in-Ok
returns-in-Ok g c =
    let name = c.args.name.now in
    let quarter = c.args.quarter in
    let period = c.in_ok-period.period in
    let found = c.in_ok-obligations.obligations in
    let rows = c.in-Ok.rows in
    let of_return = c.quarter_return-of_return.result in
    let next_day : c.has_next_day-next_day.result ≡ list_any is_next_day_row found.items =
    c.has_next_day-next_day.ensures ∙ ap (λ (os : List Obligation). list_any is_next_day_row os)
    c.deref.ensures.value in
    let are_rows : Pairs (IsRowBy of_return c.args.as_of) (filter (begins_in quarter) found.items)
    rows.items =
    subst (λ (os : List Obligation). Pairs (IsRowBy of_return c.args.as_of)
    (filter (begins_in quarter) os)
    rows.items) c.deref-2.ensures.value c.in-Ok.ensures in
    record {
      call = then_reads _ _ c.in_ok-period.ensures.call c.in_ok-obligations.ensures.call
          (λ t knows lists years. (
            (
              due_known name c.args.form quarter c.args.as_of c.args.holidays period
                  c.has_next_day-next_day.result found.items of_return rows.items c.requires.from
                  c.requires.to c.quarter_return-of_return.ensures.stands next_day are_rows t years
                  knows (obligations_known name period.first period.last found t lists),
              rows_shown name quarter c.args.form period.first period.last c.args.as_of found.items
                  of_return rows.items t c.requires.from c.requires.to knows.first knows.last lists
                  are_rows,
            ),
            return_known c.args.form quarter (holidays_of c.args.holidays) of_return.due
                c.requires.from c.requires.to
                c.quarter_return-of_return.ensures.stands.due t years,
          ));
      same = c.quarter_return-of_return.ensures.stands.holidays_are;
    }

pub returns-clause-call : goal.returns-clause-call
returns-clause-call g c =
    gave_up_after (then_goes (tt {0}) c.in_ok-period.ensures.call.frame
    c.in_ok-obligations.ensures.call.frame) c.give_up.ensures.frame c.give_up.ensures.fails
