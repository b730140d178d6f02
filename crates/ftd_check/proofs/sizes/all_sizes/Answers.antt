use Rattle.std.proofs.Common.{◌∙◌, rules}
use Rattle.ftd_store.proofs.Going.{fails_after}
use Rattle.ftd_store.proofs.Telling.{then_reads}
use Rattle.ftd_entries.proofs.Reading.{both_read}
use Rattle.ftd_check.specs.Sizes.{AreAllSizes}
use Rattle.ftd_check.proofs.sizes.all_sizes.Goals as goal

pub returns-in_err-count_all_year_corrections : goal.returns-in_err-count_all_year_corrections
returns-in_err-count_all_year_corrections g c =
    let one = both_read c.in_ok-count_all_forms.ensures.call
    c.in_ok-count_all_account_corrections.ensures.call in
    let two = both_read one c.in_ok-count_all_reported.ensures.call in
    let three = both_read two c.in_ok-count_all_reported_years.ensures.call in
    let four = both_read three c.in_ok-count_all_corrections.ensures.call in
    record {
      call = fails_after (search rules) four.frame
          c.in_err-count_all_year_corrections.ensures.call.frame;
    }

pub returns-in_err-count_all_years : goal.returns-in_err-count_all_years
returns-in_err-count_all_years g c =
    let one = both_read c.in_ok-count_all_forms.ensures.call
    c.in_ok-count_all_account_corrections.ensures.call in
    let two = both_read one c.in_ok-count_all_reported.ensures.call in
    let three = both_read two c.in_ok-count_all_reported_years.ensures.call in
    let four = both_read three c.in_ok-count_all_corrections.ensures.call in
    let five = both_read four c.in_ok-count_all_year_corrections.ensures.call in
    record {
      call = fails_after (search rules) five.frame
          c.in_err-count_all_years.ensures.call.frame;
    }

pub returns-in_err-count_all_runs : goal.returns-in_err-count_all_runs
returns-in_err-count_all_runs g c =
    let one = both_read c.in_ok-count_all_forms.ensures.call
    c.in_ok-count_all_account_corrections.ensures.call in
    let two = both_read one c.in_ok-count_all_reported.ensures.call in
    let three = both_read two c.in_ok-count_all_reported_years.ensures.call in
    let four = both_read three c.in_ok-count_all_corrections.ensures.call in
    let five = both_read four c.in_ok-count_all_year_corrections.ensures.call in
    let six = both_read five c.in_ok-count_all_years.ensures.call in
    record {
      call = fails_after (search rules) six.frame
          c.in_err-count_all_runs.ensures.call.frame;
    }

pub returns-in_err-count_all_payments : goal.returns-in_err-count_all_payments
returns-in_err-count_all_payments g c =
    let one = both_read c.in_ok-count_all_forms.ensures.call
    c.in_ok-count_all_account_corrections.ensures.call in
    let two = both_read one c.in_ok-count_all_reported.ensures.call in
    let three = both_read two c.in_ok-count_all_reported_years.ensures.call in
    let four = both_read three c.in_ok-count_all_corrections.ensures.call in
    let five = both_read four c.in_ok-count_all_year_corrections.ensures.call in
    let six = both_read five c.in_ok-count_all_years.ensures.call in
    let seven = both_read six c.in_ok-count_all_runs.ensures.call in
    record {
      call = fails_after (search rules) seven.frame
          c.in_err-count_all_payments.ensures.call.frame;
    }

pub returns-in_err-count_all_obligations : goal.returns-in_err-count_all_obligations
returns-in_err-count_all_obligations g c =
    let one = both_read c.in_ok-count_all_forms.ensures.call
    c.in_ok-count_all_account_corrections.ensures.call in
    let two = both_read one c.in_ok-count_all_reported.ensures.call in
    let three = both_read two c.in_ok-count_all_reported_years.ensures.call in
    let four = both_read three c.in_ok-count_all_corrections.ensures.call in
    let five = both_read four c.in_ok-count_all_year_corrections.ensures.call in
    let six = both_read five c.in_ok-count_all_years.ensures.call in
    let seven = both_read six c.in_ok-count_all_runs.ensures.call in
    let eight = both_read seven c.in_ok-count_all_payments.ensures.call in
    record {
      call = fails_after (search rules) eight.frame
          c.in_err-count_all_obligations.ensures.call.frame;
    }

pub returns : goal.returns
returns g c =
    let one = both_read c.in_ok-count_all_forms.ensures.call
    c.in_ok-count_all_account_corrections.ensures.call in
    let two = both_read one c.in_ok-count_all_reported.ensures.call in
    let three = both_read two c.in_ok-count_all_reported_years.ensures.call in
    let four = both_read three c.in_ok-count_all_corrections.ensures.call in
    let five = both_read four c.in_ok-count_all_year_corrections.ensures.call in
    let six = both_read five c.in_ok-count_all_years.ensures.call in
    let seven = both_read six c.in_ok-count_all_runs.ensures.call in
    let eight = both_read seven c.in_ok-count_all_payments.ensures.call in
    record {
      call = then_reads (record {
        forms = c.wide.result;
        account_corrections = c.wide-2.result;
        reported = c.wide-3.result;
        reported_years = c.wide-4.result;
        corrections = c.wide-5.result;
        year_corrections = c.wide-6.result;
        years = c.wide-7.result;
        runs = c.wide-8.result;
        payments = c.wide-9.result;
        obligations = c.wide-10.result;
      }) AreAllSizes eight c.in_ok-count_all_obligations.ensures.call
          (λ t nine last. record {
            forms = c.wide.ensures.value ∙ nine.0.0.0.0.0.0.0.0;
            account_corrections = c.wide-2.ensures.value ∙ nine.0.0.0.0.0.0.0.1;
            reported = c.wide-3.ensures.value ∙ nine.0.0.0.0.0.0.1;
            reported_years = c.wide-4.ensures.value ∙ nine.0.0.0.0.0.1;
            corrections = c.wide-5.ensures.value ∙ nine.0.0.0.0.1;
            year_corrections = c.wide-6.ensures.value ∙ nine.0.0.0.1;
            years = c.wide-7.ensures.value ∙ nine.0.0.1;
            runs = c.wide-8.ensures.value ∙ nine.0.1;
            payments = c.wide-9.ensures.value ∙ nine.1;
            obligations = c.wide-10.ensures.value ∙ last;
            small = record {
              forms = c.wide.ensures.small;
              account_corrections = c.wide-2.ensures.small;
              reported = c.wide-3.ensures.small;
              reported_years = c.wide-4.ensures.small;
              corrections = c.wide-5.ensures.small;
              year_corrections = c.wide-6.ensures.small;
              years = c.wide-7.ensures.small;
              runs = c.wide-8.ensures.small;
              payments = c.wide-9.ensures.small;
              obligations = c.wide-10.ensures.small;
            };
          });
    }
