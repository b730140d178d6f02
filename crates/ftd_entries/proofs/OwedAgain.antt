-- An obligation by other holidays.
use Rattle.std.proofs.Common.{ℕ, List, refl}
use Rattle.ftd_rules.specs.declared.Form.{Form}
use Rattle.ftd_rules.specs.declared.DaySum.{DaySum}
use Rattle.ftd_rules.specs.declared.Obligation.{Obligation}
use Rattle.ftd_rules.specs.declared.YearLine.{YearLine}
use Rattle.ftd_rules.specs.Due.{IsDue}
use Rattle.ftd_rules.specs.Obligations.{IsObligation}
use Rattle.ftd_rules.proofs.Resting.{obligation_same}
use Rattle.ftd_rules.proofs.Stated.{due_by, piece_owed, owed_stated}

-- with the due date that the other holidays give it, it is an obligation by them
pub owed_again : (form : Form) (lines : List YearLine) (sums : List DaySum) (some all : List ℕ)
    (o : Obligation) (due : ℕ) → IsDue all o.rule o.last due
    → IsObligation form lines sums some o → IsObligation form lines sums all
    (record o { due = due })
owed_again form lines sums some all o due is owed =
    owed_stated form lines sums all (record o { due = due })
    (obligation_same form lines sums sums some all (λ day lies. refl) o (record o { due = due })
    refl (due_by all o.rule o.last due is) (piece_owed form lines sums some o owed))
