use Rattle.ftd_program.proofs.Settled.{pays_some}
use Rattle.ftd_program.proofs.settle.pay_left.Goals as goal

pub returns-in-len1-up : goal.returns-in-len1-up
returns-in-len1-up g c =
    pays_some g.S.Store g.O.Target.taken g.O.Target.failed g.E.Target.taken g.E.Target.failed
    c.args.paying.db.now c.args.paying.asked.now.account c.args.paying.asked.now.due c.args.out
    c.args.err c.pay_each.result c.args.desk.now c.pay_each.new.desk c.args.payments.now
    c.in-len1-up.len_at_least c.pay_each.ensures
