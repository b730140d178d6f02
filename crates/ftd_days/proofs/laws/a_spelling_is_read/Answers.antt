use Rattle.ftd_days.proofs.Spelling.{cents_spelled, spelled_cents, day_spelled, day_missing}
use Rattle.ftd_days.proofs.Spelling.{quarter_spelled, quarter_missing}
use Rattle.ftd_days.proofs.laws.a_spelling_is_read.Goals as goal

pub returns : goal.returns
returns c = record {
  amount = λ text amount. (spelled_cents text amount, cents_spelled text amount);
  day = day_spelled;
  no_day = day_missing;
  quarter = quarter_spelled;
  no_quarter = quarter_missing;
}
