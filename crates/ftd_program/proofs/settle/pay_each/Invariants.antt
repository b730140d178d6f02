use Rattle.std.proofs.Common.{take}
use Rattle.ftd_program.specs.Settling.{PaysAll}
use Rattle.ftd_program.proofs.settle.pay_each.Given as goal

abbrev pub invariant-loop-payment : goal.invariant-loop-payment
invariant-loop-payment g l = record {
  paid : PaysAll g.S.Store g.O.Target.taken g.O.Target.failed g.E.Target.taken g.E.Target.failed
      l.paying.db.now l.paying.asked.now.account l.paying.asked.now.due l.initial.out l.out
      l.initial.err l.err l.fn.desk l.desk (take l.payment-index l.payments);
}
