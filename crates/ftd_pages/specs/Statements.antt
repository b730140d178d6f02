-- The rules in words, each with its source.
use Rattle.std.specs.Prelude.{ℕ, List, ◌++◌, codes}
use Rattle.ftd_rules.specs.declared.Kind.{Kind}
use Rattle.ftd_rules.specs.declared.Kind.TheVariants as kind
use Rattle.ftd_rules.specs.declared.Rule.{Rule}
use Rattle.ftd_rules.specs.declared.Rule.TheVariants as rule
use Rattle.ftd_machine.specs.declared.replies.Reason.{Reason}
use Rattle.ftd_machine.specs.declared.replies.Reason.TheVariants.{Lookback, Turned, Carried}
use Rattle.ftd_pages.specs.Escapes.{escaped}
use Rattle.ftd_pages.specs.declared.statements.Statement.{Statement}

-- a sentence, and where it is printed
pub record Stated : Type 0 where
  pub sentence : List ℕ
  pub source : List ℕ

abbrev pub stated_in : Statement → Stated
stated_in x = record { sentence = x.sentence.now; source = x.source.now }

-- as it stands in a page
unfoldable pub statement_of : Stated → List ℕ
statement_of x =
    codes "<p>" ++ (escaped x.sentence ++ (codes " <cite>" ++ (escaped x.source
    ++ codes "</cite></p>\n")))

-- ---- the rule of an obligation

unfoldable pub monthly_rule : Stated
monthly_rule = record {
  sentence = codes "The liability of a calendar month is deposited together, by the 15th of the "
      ++ (codes "next month. If the 15th is not a business day, the deposit is due on the "
      ++ codes "next business day.");
  source = codes "IRS Publication 15, section 11, Monthly Deposit Schedule; 26 CFR "
      ++ codes "31.6302-1(c)(1).";
}

unfoldable pub semiweekly_rule : Stated
semiweekly_rule = record {
  sentence = codes "The liability of paydays from Wednesday to Friday is deposited together, "
      ++ (codes "and so is that of paydays from Saturday to Tuesday. The deposit is due on "
      ++ codes "the third business day after that Friday or Tuesday.");
  source = codes "IRS Publication 15, section 11, Semiweekly Deposit Schedule; 26 CFR "
      ++ codes "31.6302-1(c)(2).";
}

unfoldable pub next_day_rule : Stated
next_day_rule = record {
  sentence = codes "If 100,000.00 or more is accumulated on any day within a deposit period, it "
      ++ codes "is due on the next business day.";
  source = codes "IRS Publication 15, section 11, $100,000 Next-Day Deposit Rule; 26 CFR "
      ++ codes "31.6302-1(c)(3).";
}

abbrev pub rule_stated : Rule → Stated
rule_stated rule.Monthly = monthly_rule
rule_stated rule.Semiweekly = semiweekly_rule
rule_stated rule.NextDay = next_day_rule

-- ---- why an account has its deposit schedule

unfoldable pub low_lookback : Stated
low_lookback = record {
  sentence = codes "An employer whose lookback total is 50,000.00 or less is a monthly schedule "
      ++ codes "depositor.";
  source = codes "IRS Publication 15, section 11, Deposit Schedules; 26 CFR 31.6302-1(b)(2).";
}

unfoldable pub high_lookback : Stated
high_lookback = record {
  sentence = codes "An employer whose lookback total is more than 50,000.00 is a semiweekly "
      ++ codes "schedule depositor.";
  source = codes "IRS Publication 15, section 11, Deposit Schedules; 26 CFR 31.6302-1(b)(3).";
}

unfoldable pub turned_rule : Stated
turned_rule = record {
  sentence = codes "A monthly schedule depositor that accumulates 100,000.00 or more on any day "
      ++ (codes "becomes a semiweekly schedule depositor on the next day, for at least the "
      ++ codes "rest of that calendar year and for the following one.");
  source = codes "IRS Publication 15, section 11, $100,000 Next-Day Deposit Rule; 26 CFR "
      ++ codes "31.6302-1(b)(2)(ii).";
}

unfoldable pub carried_rule : Stated
carried_rule = record {
  sentence = codes "An employer that became a semiweekly schedule depositor in one calendar "
      ++ codes "year stays one in the following year. The account was enrolled as one.";
  source = codes "IRS Publication 15, section 11, $100,000 Next-Day Deposit Rule; 26 CFR "
      ++ codes "31.6302-1(b)(2)(ii).";
}

-- by the lookback total
abbrev pub lookback_stated : Kind → Stated
lookback_stated kind.Monthly = low_lookback
lookback_stated kind.Semiweekly = high_lookback

abbrev pub reason_stated : Kind → Reason → Stated
reason_stated kind Lookback = lookback_stated kind
reason_stated kind (Turned turn) = turned_rule
reason_stated kind Carried = carried_rule

-- ---- what is counted

unfoldable pub payday_rule : Stated
payday_rule = record {
  sentence = codes "The liability for withheld tax arises on the payday, not on the last day of "
      ++ codes "the pay period.";
  source = codes "IRS Publication 15, section 11, When To Deposit.";
}

unfoldable pub business_day_rule : Stated
business_day_rule = record {
  sentence = codes "A business day is any day but a Saturday, a Sunday or a legal holiday in "
      ++ codes "the District of Columbia.";
  source = codes "IRS Publication 15, section 11, Deposits Due on Business Days Only; 26 CFR "
      ++ codes "31.6302-1(c)(4).";
}

unfoldable pub return_rule : Stated
return_rule = record {
  sentence = codes "A quarterly return is due on the last day of the month after the quarter, "
      ++ (codes "an annual one on January 31 of the next year. If that is not a business day, "
      ++ codes "it is due on the next business day.");
  source = codes "Instructions for Form 941 and for Form 943, When Must You File?";
}
