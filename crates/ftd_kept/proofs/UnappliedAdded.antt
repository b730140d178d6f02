-- Money that counts for nothing: a row that is added, or none.
use Rattle.std.proofs.Common.{◌≡◌, ◌∙◌, refl, sym, ℕ, ◌<◌, ◌≤◌, ◌++◌, [], ◌∷◌, List, None, Some}
use Rattle.std.proofs.Common.{false, Option, arith}
use Rattle.ftd_days.specs.declared.cents.Cents.{Cents}
use Rattle.ftd_rules.specs.declared.Obligation.{Obligation}
use Rattle.ftd_rules.specs.declared.payment.Payment.{Payment}
use Rattle.ftd_store.specs.declared.kept_cells.NumberedPayment.{NumberedPayment}
use Rattle.ftd_machine.specs.Kept.{IsHeldBy}
use Rattle.ftd_machine.specs.declared.lists.UnappliedRow.{UnappliedRow}
use Rattle.ftd_kept.specs.Unapplied.{Adds, paid_for, obligation_row, stray_row}
use Rattle.ftd_kept.specs.Unapplied.{IsOverpaidRow, IsStrayRow}
use Rattle.ftd_kept.proofs.Added.{adds_none, adds_one}

pub overpaid_none : (name : List ℕ) (payments : List Payment) (o : Obligation) (paid : Cents)
    (xs : List UnappliedRow) → paid.0 ≡ paid_for payments o → paid.0 ≤ o.cents.0
    → Adds (IsOverpaidRow name payments o) xs xs
overpaid_none name payments o paid xs is less =
    adds_none (IsOverpaidRow name payments o) xs (λ x h. (let more = h.0 in omega arith))

pub overpaid_added : (name : List ℕ) (payments : List Payment) (o : Obligation) (paid : Cents)
    (xs : List UnappliedRow) → paid.0 ≡ paid_for payments o → o.cents.0 < paid.0
    → Adds (IsOverpaidRow name payments o) xs (xs ++ obligation_row name o paid ∷ [])
overpaid_added name payments o paid xs is more =
    adds_one (IsOverpaidRow name payments o) xs (obligation_row name o paid) (omega arith, same paid is)
    (λ x h. h.1 ∙ sym (same paid is))
  where
    same : (paid : Cents) → paid.0 ≡ paid_for payments o
        → obligation_row name o paid ≡ obligation_row name o (record { 0 = paid_for payments o })
    same paid is = rw (cents paid is) refl
      where
        cents : (paid : Cents) → paid.0 ≡ paid_for payments o
            → paid ≡ record { 0 = paid_for payments o }
        cents paid is = rw (← is) refl

pub stray_added : (name : List ℕ) (owed : List Obligation) (row : NumberedPayment)
    (held : Option ℕ) (xs : List UnappliedRow) → row.payment.voided ≡ false
    → IsHeldBy owed row.payment.value.for_day held → held ≡ None
    → Adds (IsStrayRow name owed row) xs (xs ++ stray_row name row ∷ [])
stray_added name owed row None xs live none is =
    adds_one (IsStrayRow name owed row) xs (stray_row name row) (live, none, refl) (λ x h. h.2)
stray_added name owed row (Some first) xs live held is = absurd cc
