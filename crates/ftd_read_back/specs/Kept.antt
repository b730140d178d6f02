-- What the rows of the other lists say, in CSV by the texts under the names of the columns, in JSON
-- by the members of an object; and which row of a desk they tell.
use Rattle.std.specs.Prelude.{ℕ, ◌-◌, Bool, List, codes, Option, Some, option_map}
use Rattle.std.specs.Option.{option_or}
use Rattle.serde_json.specs.Data.{Data}
use Rattle.ftd_rules.specs.declared.DaySum.{DaySum}
use Rattle.ftd_rules.specs.declared.Form.{Form}
use Rattle.ftd_rules.specs.declared.Kind.{Kind}
use Rattle.ftd_machine.specs.declared.kept.KeptAccount.{KeptAccount}
use Rattle.ftd_machine.specs.declared.kept.KeptHoliday.{KeptHoliday}
use Rattle.ftd_machine.specs.declared.kept.KeptRun.{KeptRun}
use Rattle.ftd_machine.specs.declared.kept.KeptTotal.{KeptTotal}
use Rattle.ftd_machine.specs.declared.kept.KeptYear.{KeptYear}
use Rattle.ftd_machine.specs.declared.lists.UnappliedRow.{UnappliedRow}
use Rattle.ftd_read_back.specs.Cells.{cents_read, flag_read, form_read, kind_read, number_read}
use Rattle.ftd_read_back.specs.Cells.{or_none_read}
use Rattle.ftd_read_back.specs.Dates.{Date, date_of, day_read}
use Rattle.ftd_read_back.specs.Objects.{day_or_null, flag_in, number_in, number_or_null, text_in}
use Rattle.ftd_read_back.specs.Periods.{Period, period_of, period_read, quarter_read, whole_year}

-- ---- a pay run of an account: its number, its payday, and in cents the federal income tax, and
-- both shares of social security and of Medicare tax; JSON also says whether it was voided

pub record RunCells : Type 0 where
  pub account : List ℕ
  pub number : Option ℕ
  pub payday : Option Date
  pub fit : Option ℕ
  pub ss : Option ℕ
  pub medicare : Option ℕ

abbrev pub run_read : (List ℕ → List ℕ) → RunCells
run_read said = record {
  account = said (codes "employer");
  number = number_read (said (codes "run"));
  payday = day_read (said (codes "payday"));
  fit = cents_read (said (codes "fit"));
  ss = cents_read (said (codes "ss"));
  medicare = cents_read (said (codes "medicare"));
}

abbrev pub run_cells : List ℕ → KeptRun → RunCells
run_cells account x = record {
  account = account;
  number = Some x.number;
  payday = Some (date_of x.run.payday);
  fit = Some x.run.fit.0;
  ss = Some x.run.ss.0;
  medicare = Some x.run.medicare.0;
}

pub record RunObject : Type 0 where
  pub cells : RunCells
  pub voided : Option Bool

abbrev pub run_object_read : Data → RunObject
run_object_read d = record {
  cells = record {
    account = text_in d (codes "account");
    number = number_in d (codes "run");
    payday = day_read (text_in d (codes "payday"));
    fit = cents_read (text_in d (codes "fit"));
    ss = cents_read (text_in d (codes "ss"));
    medicare = cents_read (text_in d (codes "medicare"));
  };
  voided = flag_in d (codes "void");
}

abbrev pub run_object : List ℕ → KeptRun → RunObject
run_object account x = record { cells = run_cells account x; voided = Some x.voided }

-- ---- an account: its first day, whether it came in as semiweekly, and the form that it files

pub record AccountCells : Type 0 where
  pub account : List ℕ
  pub start : Option Date
  pub carried : Option Bool
  pub form : Option Form

abbrev pub account_read : (List ℕ → List ℕ) → AccountCells
account_read said = record {
  account = said (codes "employer");
  start = day_read (said (codes "first_day"));
  carried = flag_read (said (codes "carried"));
  form = form_read (said (codes "form"));
}

abbrev pub account_object_read : Data → AccountCells
account_object_read d = record {
  account = text_in d (codes "account");
  start = day_read (text_in d (codes "start"));
  carried = flag_in d (codes "carried");
  form = form_read (text_in d (codes "form"));
}

abbrev pub account_cells : KeptAccount → AccountCells
account_cells x = record {
  account = x.name;
  start = Some (date_of x.account.start);
  carried = Some x.account.carried;
  form = Some x.account.form;
}

-- ---- an open year of an account: its lookback total in cents, the schedule that it opens with,
-- whether the account is carried into it, the day on which it turned, if it did, and its lookback
-- total as it was first reported

pub record YearCells : Type 0 where
  pub account : List ℕ
  pub year : Option ℕ
  pub lookback : Option ℕ
  pub opening : Option Kind
  pub carried : Option Bool
  pub turned : Option (Option Date)
  pub first_lookback : Option ℕ

abbrev pub year_read : (List ℕ → List ℕ) → YearCells
year_read said = record {
  account = said (codes "employer");
  year = number_read (said (codes "year"));
  lookback = cents_read (said (codes "lookback"));
  opening = kind_read (said (codes "opening"));
  carried = flag_read (said (codes "carried"));
  turned = or_none_read day_read (said (codes "turned"));
  first_lookback = cents_read (said (codes "first_lookback"));
}

abbrev pub year_object_read : Data → YearCells
year_object_read d = record {
  account = text_in d (codes "account");
  year = number_in d (codes "year");
  lookback = cents_read (text_in d (codes "lookback"));
  opening = kind_read (text_in d (codes "opening"));
  carried = flag_in d (codes "carried");
  turned = day_or_null d (codes "turned");
  first_lookback = cents_read (text_in d (codes "first_lookback"));
}

abbrev pub year_cells : List ℕ → KeptYear → YearCells
year_cells account x = record {
  account = account;
  year = Some x.line.year;
  lookback = Some x.line.lookback.0;
  opening = Some x.line.opening;
  carried = Some x.line.carried;
  turned = Some (option_map date_of x.line.turn);
  first_lookback = Some x.first_lookback.0;
}

-- ---- a reported total of an account: its quarter or its year, and in cents the amount in force;
-- JSON also has the amount that was first reported

pub record TotalCells : Type 0 where
  pub account : List ℕ
  pub period : Option Period
  pub amount : Option ℕ

abbrev pub total_read : (List ℕ → List ℕ) → TotalCells
total_read said = record {
  account = said (codes "employer");
  period = period_read (said (codes "period"));
  amount = cents_read (said (codes "amount"));
}

abbrev pub total_cells : List ℕ → KeptTotal → TotalCells
total_cells account x = record {
  account = account;
  period = Some (period_of x.period);
  amount = Some x.cents.0;
}

pub record TotalObject : Type 0 where
  pub cells : TotalCells
  pub first : Option ℕ

-- an object has the number of a year, or the text of a quarter
abbrev pub period_in : Data → Option Period
period_in d =
    option_or (option_map whole_year (number_in d (codes "year")))
    (quarter_read (text_in d (codes "quarter")))

abbrev pub total_object_read : Data → TotalObject
total_object_read d = record {
  cells = record {
    account = text_in d (codes "account");
    period = period_in d;
    amount = cents_read (text_in d (codes "amount"));
  };
  first = cents_read (text_in d (codes "first"));
}

abbrev pub total_object : List ℕ → KeptTotal → TotalObject
total_object account x = record { cells = total_cells account x; first = Some x.first.0 }

-- ---- a day that was given or added as a holiday: whether it was added, and whether it is one

pub record HolidayCells : Type 0 where
  pub day : Option Date
  pub added : Option Bool
  pub is_holiday : Option Bool

abbrev pub holiday_read : (List ℕ → List ℕ) → HolidayCells
holiday_read said = record {
  day = day_read (said (codes "day"));
  added = flag_read (said (codes "added"));
  is_holiday = flag_read (said (codes "holiday"));
}

abbrev pub holiday_object_read : Data → HolidayCells
holiday_object_read d = record {
  day = day_read (text_in d (codes "day"));
  added = flag_in d (codes "added");
  is_holiday = flag_in d (codes "holiday");
}

abbrev pub holiday_cells : KeptHoliday → HolidayCells
holiday_cells x =
    record { day = Some (date_of x.day); added = Some x.added; is_holiday = Some x.is_holiday }

-- ---- money that counts for nothing: the account, the number of the payment, if it is one, first
-- and last day, and in cents the amount, what was paid, and what is over

pub record UnappliedCells : Type 0 where
  pub account : List ℕ
  pub payment : Option (Option ℕ)
  pub first : Option Date
  pub last : Option Date
  pub amount : Option ℕ
  pub paid : Option ℕ
  pub over : Option ℕ

abbrev pub unapplied_read : (List ℕ → List ℕ) → UnappliedCells
unapplied_read said = record {
  account = said (codes "account");
  payment = or_none_read number_read (said (codes "payment"));
  first = day_read (said (codes "first"));
  last = day_read (said (codes "last"));
  amount = cents_read (said (codes "amount"));
  paid = cents_read (said (codes "paid"));
  over = cents_read (said (codes "over"));
}

abbrev pub unapplied_object_read : Data → UnappliedCells
unapplied_object_read d = record {
  account = text_in d (codes "account");
  payment = number_or_null d (codes "payment");
  first = day_read (text_in d (codes "first"));
  last = day_read (text_in d (codes "last"));
  amount = cents_read (text_in d (codes "amount"));
  paid = cents_read (text_in d (codes "paid"));
  over = cents_read (text_in d (codes "over"));
}

abbrev pub unapplied_cells : UnappliedRow → UnappliedCells
unapplied_cells x = record {
  account = x.account;
  payment = Some x.payment;
  first = Some (date_of x.first);
  last = Some (date_of x.last);
  amount = Some x.amount.0;
  paid = Some x.paid.0;
  over = Some (x.paid.0 - x.amount.0);
}

-- ---- a day of Schedule B: the account, and the liability of the day in cents

pub record DayCells : Type 0 where
  pub account : List ℕ
  pub day : Option Date
  pub amount : Option ℕ

abbrev pub liable_read : (List ℕ → List ℕ) → DayCells
liable_read said = record {
  account = said (codes "account");
  day = day_read (said (codes "day"));
  amount = cents_read (said (codes "amount"));
}

abbrev pub liable_object_read : Data → DayCells
liable_object_read d = liable_read (text_in d)

abbrev pub liable_cells : List ℕ → DaySum → DayCells
liable_cells account x =
    record { account = account; day = Some (date_of x.day); amount = Some x.cents.0 }
