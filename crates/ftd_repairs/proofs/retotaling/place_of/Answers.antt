use Rattle.std.proofs.Common.{◌≡◌, ◌≤◌, ◌++◌, ◌∷◌, ◌-◌, ◌+◌, ℕ, List, [], length, arith}
use Rattle.std.proofs.lemmas.List.{length-append}
use Rattle.ftd_days.specs.Calendar.{year_start}
use Rattle.ftd_rules.specs.declared.YearLine.{YearLine}
use Rattle.ftd_rules.proofs.Schedules.{year_facts, year_only, years_top}
use Rattle.ftd_buckets.specs.Histories.{MayBegin}
use Rattle.ftd_repairs.specs.Reopened.{IsAt}
use Rattle.ftd_repairs.proofs.retotaling.place_of.Goals as goal

-- the lines that a repair may begin with on the first day of the year begin with its line
at_year : (year day : ℕ) → 2001 ≤ year → year ≤ 2098 → day ≡ year_start year
    → (lines earlier rest : List YearLine) → lines ≡ earlier ++ rest → MayBegin day rest
    → IsAt year lines (length lines - length rest)
at_year year day low high is lines earlier [] cut begins = absurd begins.2
at_year year day low high is lines earlier (line ∷ later) cut begins =
    let years = begins.0 in
    let first = years.1 in
    let its = years.2.0 in
    let top = years_top (years.0 + 1) later years.2.1 in
    let f = year_facts year low high in
    let f1 = f.1 in
    let from = begins.2.0 in let to = begins.2.1 in
    let count = length-append earlier (line ∷ later) in (
      record {
        earlier = earlier;
        line = line;
        later = later;
        cut = cut;
        of_year = year_only line.year year day (omega arith) (omega arith) low high from to
            (omega arith) (omega arith);
      },
      (rw cut (omega arith)),
    )

pub returns-clause-at : goal.returns-clause-at
returns-clause-at c =
    let lines : List YearLine = c.args.lines.now in
    let rest : List YearLine = c.in_ok-rest.rest.now in
    let cut = c.in_ok-rest.ensures.rest in
    at_year c.args.year c.first_day.result c.requires.from c.requires.to c.first_day.ensures lines
    cut.0 rest cut.1 c.in_ok-rest.ensures.may_begin
