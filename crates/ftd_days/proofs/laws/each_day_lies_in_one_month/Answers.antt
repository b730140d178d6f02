use Rattle.std.proofs.Common.{sym, arith}
use Rattle.ftd_days.proofs.Months.{in_month, month_of_only, month_start-end}
use Rattle.ftd_days.proofs.laws.each_day_lies_in_one_month.Goals as goal

pub returns : goal.returns
returns c = record {
  some = λ day l. in_month day l;
  one = λ day month l is. (let end = month_start-end in
      sym (month_of_only day month (omega arith) is.0 is.1));
}
