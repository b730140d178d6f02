use Rattle.ftd_hinted.proofs.HintLaws.{calendar_named, form_named, no_holiday_named}
use Rattle.ftd_hinted.proofs.laws.a_command_that_is_named_exists.Goals as goal

pub returns : goal.returns
returns c = record {
  form = form_named;
  calendar = calendar_named;
  no_holiday = no_holiday_named;
}
