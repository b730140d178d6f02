use Rattle.ftd_hinted.proofs.HintLaws.{calendar_hint, each_quarter_hint, enrol_hint, open_year_hint}
use Rattle.ftd_hinted.proofs.HintLaws.{report_hint, report_year_hint}
use Rattle.ftd_hinted.proofs.laws.what_is_missing_is_entered_by_its_hint.Goals as goal

pub returns : goal.returns
returns c = record {
  open_year = open_year_hint;
  calendar = calendar_hint;
  report = report_hint;
  each_quarter = each_quarter_hint;
  report_year = report_year_hint;
  enrol = enrol_hint;
}
