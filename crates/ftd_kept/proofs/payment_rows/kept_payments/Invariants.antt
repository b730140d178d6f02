use Rattle.std.proofs.Common.{take}
use Rattle.ftd_store.specs.Lists.{Pairs}
use Rattle.ftd_kept.specs.Payments.{IsKeptPayment}
use Rattle.ftd_kept.proofs.payment_rows.kept_payments.Given as goal

abbrev pub invariant-loop-row : goal.invariant-loop-row
invariant-loop-row l = Pairs (IsKeptPayment l.owed) (take l.row-index l.rows) l.payments.items
