use Rattle.std.proofs.Common.{◌∙◌, arith}
use Rattle.std.proofs.lemmas.Result.{err_from_is_err_and}
use Rattle.ftd_csv.specs.declared.sheets.Sheet.TheVariants.{Runs}
use Rattle.ftd_plain.specs.Plain.{run_records}
use Rattle.ftd_plain.specs.Taking.{runs_of}
use Rattle.ftd_plain.proofs.Sums.{calendar_fault_of, kept_small, same_sums, stops_fault, sums_few}
use Rattle.ftd_plain.proofs.Sums.{sums_in_year, sums_small, text_fails}
use Rattle.ftd_plain.proofs.TakingFacts.{counted_of, runs_first}
use Rattle.ftd_plain.proofs.deposits.plain.Goals as goal

pub returns-in_err-calendar : goal.returns-in_err-calendar
returns-in_err-calendar c =
    let p = err_from_is_err_and c.from_residual.result c.from_residual.ensures.1 in
    rw (p.1, p.2) (calendar_fault_of c.args.csv.now c.args.account.now c.args.year
    c.args.holidays.now _ (omega arith) c.in_err-calendar.ensures)

pub returns-in_err-records : goal.returns-in_err-records
returns-in_err-records c =
    let p = err_from_is_err_and c.from_residual-in_err-records.result
    c.from_residual-in_err-records.ensures.1 in
    rw (p.1, p.2) (text_fails c.args.csv.now c.args.account.now c.args.year c.args.holidays.now _
    (omega arith) c.in_ok-calendar.ensures.0 c.in_err-records.ensures)

pub returns-in_err-runs : goal.returns-in_err-runs
returns-in_err-runs c =
    let read = c.in_ok-records.ensures in
    let p = err_from_is_err_and c.from_residual-in_err-runs.result
    c.from_residual-in_err-runs.ensures.1 in
    rw (p.1, p.2)
    (stops_fault c.args.csv.now c.args.account.now c.args.year c.args.holidays.now _
    (record { short = read.short; calendar = c.in_ok-calendar.ensures.0; header = read.header })
    (rw (runs_first Runs c.args.csv.now _ read) at c.in_err-runs.ensures))

pub day_sums-requires : goal.day_sums-requires
day_sums-requires c =
    kept_small c.args.account.now c.args.year c.args.csv.now c.in_ok-runs.runs.entries
    (rw (runs_first Runs c.args.csv.now _ c.in_ok-records.ensures) at c.in_ok-runs.ensures.1)

pub deposits-requires-clause-few : goal.deposits-requires-clause-few
deposits-requires-clause-few c = sums_few c.in_ok-runs.runs.entries c.deref.result.now
    c.in_ok-runs.ensures.1.few (c.deref.ensures.value ∙ c.in_ok-sums.ensures)

pub deposits-requires-clause-in_year : goal.deposits-requires-clause-in_year
deposits-requires-clause-in_year c =
    sums_in_year c.args.account.now c.args.year c.args.csv.now
    c.in_ok-runs.runs.entries
    c.deref.result.now (rw (runs_first Runs c.args.csv.now _ c.in_ok-records.ensures)
    at c.in_ok-runs.ensures.1)
    (c.deref.ensures.value ∙ c.in_ok-sums.ensures)

pub deposits-requires-clause-small : goal.deposits-requires-clause-small
deposits-requires-clause-small c =
    sums_small c.args.account.now c.args.year c.args.csv.now c.in_ok-runs.runs.entries
    c.deref.result.now (rw (runs_first Runs c.args.csv.now _ c.in_ok-records.ensures)
    at c.in_ok-runs.ensures.1)
    (c.deref.ensures.value ∙ c.in_ok-sums.ensures)

pub returns : goal.returns
returns c =
    let read = c.in_ok-records.ensures in
    let all = rw (runs_first Runs c.args.csv.now _ read) at c.in_ok-runs.ensures.1 in
    let sums = c.deref.ensures.value ∙ c.in_ok-sums.ensures
    ∙ same_sums c.args.account.now c.in_ok-runs.runs.entries in
    record {
      looked_at = record {
        short = read.short;
        calendar = c.in_ok-calendar.ensures.0;
        header = read.header;
      };
      deposits = record {
        none_at_fault = all.none_at_fault;
        counted = runs_of c.args.account.now c.in_ok-runs.runs.entries;
        are_counted = counted_of c.args.account.now c.args.year (run_records c.args.csv.now)
            c.in_ok-runs.runs.entries c.in_ok-runs.ensures.0 all.same;
        prints = rw (c.in_ok-calendar.ensures.1, sums) at c.in_ok-text.ensures;
      };
    }
