-- What a row of a list says, by the texts that it has under the names of its columns, or of its
-- members, and which row of a desk it tells.
use Rattle.std.specs.Prelude.{◌-◌, ℕ, List, codes, Option, Some}
use Rattle.ftd_rules.specs.declared.Form.{Form}
use Rattle.ftd_rules.specs.declared.Rule.{Rule}
use Rattle.ftd_rules.specs.declared.verdict.DueRow.{DueRow}
use Rattle.ftd_rules.specs.declared.verdict.Verdict.{Verdict}
use Rattle.ftd_machine.specs.declared.kept.KeptPayment.{KeptPayment}
use Rattle.ftd_machine.specs.declared.lists.AgendaRow.{AgendaRow}
use Rattle.ftd_read_back.specs.Cells.{cents_read, form_read, number_read, rule_read, verdict_read}
use Rattle.ftd_read_back.specs.Dates.{Date, date_of, day_read}

-- ---- an obligation, in each list: its days, each as a date, its rule, in cents its amount, what
-- was paid for it and what is left to pay, and the verdict

pub record Deposit : Type 0 where
  pub due : Option Date
  pub first : Option Date
  pub last : Option Date
  pub rule : Option Rule
  pub amount : Option ℕ
  pub paid : Option ℕ
  pub left : Option ℕ
  pub verdict : Option Verdict

-- what is said
abbrev pub deposit_read : (List ℕ → List ℕ) → Deposit
deposit_read said = record {
  due = day_read (said (codes "due"));
  first = day_read (said (codes "first"));
  last = day_read (said (codes "last"));
  rule = rule_read (said (codes "rule"));
  amount = cents_read (said (codes "amount"));
  paid = cents_read (said (codes "paid"));
  left = cents_read (said (codes "left"));
  verdict = verdict_read (said (codes "verdict"));
}

-- what a desk's row has
abbrev pub deposit_of : DueRow → Deposit
deposit_of row = record {
  due = Some (date_of row.obligation.due);
  first = Some (date_of row.obligation.first);
  last = Some (date_of row.obligation.last);
  rule = Some row.obligation.rule;
  amount = Some row.obligation.cents.0;
  paid = Some row.paid.0;
  left = Some (row.obligation.cents.0 - row.paid.0);
  verdict = Some row.verdict;
}

-- ---- what is due over all accounts: with the account, its form and the day to pay by

pub record AgendaCells : Type 0 where
  pub account : List ℕ
  pub form : Option Form
  pub deposit : Deposit
  pub pay_by : Option Date

abbrev pub agenda_read : (List ℕ → List ℕ) → AgendaCells
agenda_read said = record {
  account = said (codes "account");
  form = form_read (said (codes "form"));
  deposit = deposit_read said;
  pay_by = day_read (said (codes "pay_by"));
}

abbrev pub agenda_cells : AgendaRow → AgendaCells
agenda_cells x = record {
  account = x.account;
  form = Some x.form;
  deposit = deposit_of x.row;
  pay_by = Some (date_of x.pay_by);
}

-- ---- an account's due list: with the account and the makeup date

pub record DueCells : Type 0 where
  pub account : List ℕ
  pub deposit : Deposit
  pub makeup : Option Date

abbrev pub due_read : (List ℕ → List ℕ) → DueCells
due_read said = record {
  account = said (codes "account");
  deposit = deposit_read said;
  makeup = day_read (said (codes "makeup"));
}

abbrev pub due_cells : List ℕ → DueRow → DueCells
due_cells account row =
    record { account = account; deposit = deposit_of row; makeup = Some (date_of row.makeup) }

-- ---- the payments of an account: the number of each, the day on which it was paid, the day that
-- it is for, and its amount in cents

pub record PaymentCells : Type 0 where
  pub account : List ℕ
  pub number : Option ℕ
  pub paid : Option Date
  pub for_day : Option Date
  pub amount : Option ℕ

abbrev pub payment_read : (List ℕ → List ℕ) → PaymentCells
payment_read said = record {
  account = said (codes "employer");
  number = number_read (said (codes "payment"));
  paid = day_read (said (codes "paid"));
  for_day = day_read (said (codes "for"));
  amount = cents_read (said (codes "amount"));
}

abbrev pub payment_cells : List ℕ → KeptPayment → PaymentCells
payment_cells account x = record {
  account = account;
  number = Some x.number;
  paid = Some (date_of x.payment.paid);
  for_day = Some (date_of x.payment.for_day);
  amount = Some x.payment.cents.0;
}
