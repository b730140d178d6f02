-- What the verdict for C is asked and answers.
use Rattle.std.specs.Prelude.{◌≡◌, ℕ, ◌<◌, ◌≤◌}
use Rattle.ftd_rules.specs.declared.TheConstants.{AMOUNTS_END}
use Rattle.ftd_days.specs.Calendar.{last_day}
use Rattle.ftd_rules.specs.declared.verdict.Case.{Case}
use Rattle.ftd_rules.specs.declared.verdict.Verdict.{Verdict}
use Rattle.ftd_rules.specs.Verdicts.{IsVerdict, place_of}
use Rattle.ftd_c.specs.declared.verdicts.FtdCase.{FtdCase}

-- the case of these numbers
abbrev pub case_of : FtdCase → Case
case_of c = record {
  cents = record { 0 = c.cents };
  due = c.due;
  makeup = c.makeup;
  return_due = c.return_due;
  as_of = c.as_of;
  paid_due = record { 0 = c.paid_due };
  paid_makeup = record { 0 = c.paid_makeup };
  small = c.small;
  quarter_paid = c.quarter_paid;
}

-- the numbers are days, and the amount is one that an account can owe
pub record MayBeJudged (c : FtdCase) : Type 0 where
  pub amount : c.cents < AMOUNTS_END
  pub due : c.due ≤ last_day
  pub makeup : c.makeup ≤ last_day
  pub return_due : c.return_due ≤ last_day
  pub as_of : c.as_of ≤ last_day

-- the verdict, by its place in the order in which they are looked at
pub record IsVerdictBy (c : FtdCase) (code : ℕ) : Type 0 where
  pub verdict : Verdict
  pub is_verdict : IsVerdict (case_of c) verdict
  pub is_code : code ≡ place_of verdict
