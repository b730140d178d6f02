use Rattle.ftd_hinted.proofs.HintLaws.{already_holiday_hint, correct_account_hint}
use Rattle.ftd_hinted.proofs.HintLaws.{correct_report_hint}
use Rattle.ftd_hinted.proofs.HintLaws.{correct_report_year_hint, enrolment_hint, left_out_hint}
use Rattle.ftd_hinted.proofs.HintLaws.{new_day_hint}
use Rattle.ftd_hinted.proofs.laws.what_differs_is_corrected_by_its_hint.Goals as goal

pub returns : goal.returns
returns c = record {
  report = correct_report_hint;
  report_year = correct_report_year_hint;
  account = correct_account_hint;
  enrolment = enrolment_hint;
  new_day = new_day_hint;
  left_out = left_out_hint;
  again = already_holiday_hint;
}
