-- What the texts that change rows or take them out compute to.
use Rattle.std.proofs.Common.{pos, [], ◌∷◌, codes, refl}
use Rattle.sqlite.specs.declared.types.Value.TheVariants.{Int}
use Rattle.sqlite.specs.Term.{lit, col}
use Rattle.sqlite_tied.specs.Compute.{everything}
use Rattle.ftd_sql.proofs.Phrase.{Given, Whole}
use Rattle.ftd_sql.specs.declared.TableName.TheVariants.{Metas, Years, Runs, Payments}
use Rattle.ftd_sql.specs.declared.TableName.TheVariants.{Obligations}
use Rattle.ftd_sql.specs.declared.texts.TheConstants.{SET_VERSION, SET_YEAR, VOID_RUN}
use Rattle.ftd_sql.specs.declared.texts.TheConstants.{VOID_PAYMENT, SET_OBLIGATION, SET_DUE}
use Rattle.ftd_sql.specs.declared.texts.TheConstants.{REMOVE_OBLIGATIONS}
use Rattle.ftd_sql.proofs.Shapes.{test_on, Value, Is, IsAtLeast, IsAtMost}
use Rattle.ftd_sql.proofs.Writing.{Changes, Removes}

pub sets_version : Changes Metas SET_VERSION.now
    (test_on (codes "tag") 1 Is (Value 1))
    ([])
    ((Given 2, codes "version") ∷ [])
    (col 1 0 ∷ col 1 0 ∷ col 1 1 ∷ col 0 1 ∷ [])
unfolding everything
sets_version = record {
  acts = refl;
  reads = record {
    read = _;
    is = refl;
    said = refl;
    untimed = refl;
    whole = refl;
  };
  is = λ tree. refl;
  known = λ tree. (refl, refl);
  accepted = λ tree. (refl, refl);
}

pub sets_year : Changes Years SET_YEAR.now
    (test_on (codes "account") 1 Is (Value 1))
    (test_on (codes "cal_year") 2 Is (Value 2) ∷ [])
    ((Given 3, codes "lookback") ∷ (Given 4, codes "opening") ∷ (Given 5, codes "turn") ∷ [])
    (col 1 0 ∷ col 1 0 ∷ col 1 1 ∷ col 1 2 ∷ col 0 2 ∷ col 0 3 ∷ col 0 4 ∷ [])
unfolding everything
sets_year = record {
  acts = refl;
  reads = record {
    read = _;
    is = refl;
    said = refl;
    untimed = refl;
    whole = refl;
  };
  is = λ tree. refl;
  known = λ tree. (refl, refl);
  accepted = λ tree. (refl, refl);
}

pub voids_run : Changes Runs VOID_RUN.now
    (test_on (codes "account") 1 Is (Value 1))
    (test_on (codes "run") 2 Is (Value 2) ∷ [])
    ((Whole (codes "1"), codes "voided") ∷ [])
    (col 1 0 ∷ col 1 0 ∷ col 1 1 ∷ col 1 2 ∷ col 1 3 ∷ col 1 4 ∷ col 1 5 ∷ col 1 6 ∷ lit
    (Int (pos 1)) ∷ [])
unfolding everything
voids_run = record {
  acts = refl;
  reads = record {
    read = _;
    is = refl;
    said = refl;
    untimed = refl;
    whole = refl;
  };
  is = λ tree. refl;
  known = λ tree. (refl, refl);
  accepted = λ tree. (refl, refl);
}

pub voids_payment : Changes Payments VOID_PAYMENT.now
    (test_on (codes "account") 1 Is (Value 1))
    (test_on (codes "payment") 2 Is (Value 2) ∷ [])
    ((Whole (codes "1"), codes "voided") ∷ [])
    (col 1 0 ∷ col 1 0 ∷ col 1 1 ∷ col 1 2 ∷ col 1 3 ∷ col 1 4 ∷ col 1 5 ∷ lit (Int (pos 1)) ∷ [])
unfolding everything
voids_payment = record {
  acts = refl;
  reads = record {
    read = _;
    is = refl;
    said = refl;
    untimed = refl;
    whole = refl;
  };
  is = λ tree. refl;
  known = λ tree. (refl, refl);
  accepted = λ tree. (refl, refl);
}

pub sets_obligation : Changes Obligations SET_OBLIGATION.now
    (test_on (codes "account") 1 Is (Value 1))
    (test_on (codes "first_day") 2 Is (Value 2) ∷ [])
    ((Given 3, codes "last_day") ∷ (Given 4, codes "rule") ∷ (Given 5, codes "cents") ∷ (
      Given 6,
      codes "due",
    ) ∷ [])
    (col 1 0 ∷ col 1 0 ∷ col 1 1 ∷ col 1 2 ∷ col 0 2 ∷ col 0 3 ∷ col 0 4 ∷ col 0 5 ∷ [])
unfolding everything
sets_obligation = record {
  acts = refl;
  reads = record {
    read = _;
    is = refl;
    said = refl;
    untimed = refl;
    whole = refl;
  };
  is = λ tree. refl;
  known = λ tree. (refl, refl);
  accepted = λ tree. (refl, refl);
}

pub sets_due : Changes Obligations SET_DUE.now
    (test_on (codes "account") 1 Is (Value 1))
    (test_on (codes "first_day") 2 Is (Value 2) ∷ [])
    ((Given 3, codes "due") ∷ [])
    (col 1 0 ∷ col 1 0 ∷ col 1 1 ∷ col 1 2 ∷ col 1 3 ∷ col 1 4 ∷ col 1 5 ∷ col 0 2 ∷ [])
unfolding everything
sets_due = record {
  acts = refl;
  reads = record {
    read = _;
    is = refl;
    said = refl;
    untimed = refl;
    whole = refl;
  };
  is = λ tree. refl;
  known = λ tree. (refl, refl);
  accepted = λ tree. (refl, refl);
}

pub removes_obligations : Removes Obligations REMOVE_OBLIGATIONS.now
    (test_on (codes "account") 1 Is (Value 1))
    (test_on (codes "first_day") 2 IsAtLeast (Value 2) ∷ test_on (codes "first_day") 2 IsAtMost
    (Value 3) ∷ [])
unfolding everything
removes_obligations = record {
  acts = refl;
  reads = record {
    read = _;
    is = refl;
    said = refl;
    untimed = refl;
    whole = refl;
  };
  is = λ tree. refl;
  known = λ tree. refl;
  accepted = λ tree. (refl, refl);
}
