use Rattle.std.proofs.Common.{◌∙◌, ◌+◌, arith}
use Rattle.std.specs.Prelude.{◌==◌}
use Rattle.std.proofs.lemmas.List.{take-append-drop}
use Rattle.std.proofs.lemmas.List.Sums.{prefix_len-le-length}
use Rattle.std.proofs.lemmas.Result.{err_from_is_err_and}
use Rattle.ftd_days.specs.Calendar.{year_of}
use Rattle.ftd_plain.proofs.Calendars.{this_year, next_year, both_years, both_days, calendar_fault}
use Rattle.ftd_plain.proofs.calendar.calendar.Goals as goal

pub split_at-requires : goal.split_at-requires
split_at-requires c =
    omega (
      arith,
      c.days_of.ensures,
      prefix_len-le-length (λ day. year_of day == c.args.year)
          c.args.holidays.now,
    )

pub returns-in_err-add_year : goal.returns-in_err-add_year
returns-in_err-add_year c =
    let p = err_from_is_err_and c.from_residual.result c.from_residual.ensures.1 in
    rw (p.1, p.2)
    (calendar_fault c.args.year c.split_at.result.0.now c.args.holidays.now c.new-given.result
    c.args.year c.add_year.result c.in_err-add_year.field-0.0 c.add_year.ensures.bad
    c.in_err-add_year.was
    (λ calendar. rw (c.split_at.ensures.front, c.days_of.ensures, c.new-given.ensures)
    (this_year c.args.year c.args.holidays.now c.requires.from c.requires.to calendar)))

pub returns-in_err-add_year-2 : goal.returns-in_err-add_year-2
returns-in_err-add_year-2 c =
    let p = err_from_is_err_and c.from_residual-in_err-add_year-2.result
    c.from_residual-in_err-add_year-2.ensures.1 in
    rw (p.1, p.2)
    (calendar_fault c.args.year c.split_at.result.1.now c.args.holidays.now c.add_year.new.self
    (c.args.year + 1) c.add_year-2.result c.in_err-add_year-2.field-0.0 c.add_year-2.ensures.bad
    c.in_err-add_year-2.was
    (λ calendar. rw (
      c.split_at.ensures.back,
      c.days_of.ensures,
      c.in_ok-add_year.ensures.ok.1,
      c.new-given.ensures,
    ) (next_year c.args.year c.args.holidays.now c.split_at.result.0.now c.requires.from
    c.requires.to calendar)))

pub returns : goal.returns
returns c =
    let this = rw (c.split_at.ensures.front, c.days_of.ensures, c.new-given.ensures) at
    c.in_ok-add_year.ensures.ok.0 in
    let next =
    rw (c.split_at.ensures.back, c.days_of.ensures) at c.in_ok-add_year-2.ensures.ok.0 in (
      both_years c.args.year c.args.holidays.now c.add_year.new.self c.requires.to this next,
      both_days _ _ _ _ _ _ (rw c.new-given.ensures at c.in_ok-add_year.ensures.ok.1)
          c.in_ok-add_year-2.ensures.ok.1
          ∙ rw (c.split_at.ensures.front, c.split_at.ensures.back)
          (take-append-drop c.days_of.result c.args.holidays.now),
    )
