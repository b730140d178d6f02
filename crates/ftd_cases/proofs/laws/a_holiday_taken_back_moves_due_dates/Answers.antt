use Rattle.ftd_cases.proofs.TakenBack.{dates_come_earlier, rows_move_back}
use Rattle.ftd_cases.proofs.DayTakenBack.{taken_back_moves}
use Rattle.ftd_cases.proofs.laws.a_holiday_taken_back_moves_due_dates.Goals as goal

pub returns : goal.returns
returns c = record {
  dates = dates_come_earlier;
  obligations = rows_move_back;
  request = taken_back_moves;
}
