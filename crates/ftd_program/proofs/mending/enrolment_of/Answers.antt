use Rattle.ftd_desk.specs.Desks.{held}
use Rattle.ftd_program.proofs.Mended.{stands_on}
use Rattle.ftd_program.proofs.mending.enrolment_of.Goals as goal

pub returns-in_err-is_unused-clause-stands : goal.returns-in_err-is_unused-clause-stands
returns-in_err-is_unused-clause-stands g c =
    stands_on (held g.S.Store c.args.desk.now) (held g.S.Store c.enrolled_account.new.self)
    (held g.S.Store c.is_unused.new.self) c.enrolled_account.ensures.stands
    c.is_unused.ensures.stands

pub returns-clause-stands : goal.returns-clause-stands
returns-clause-stands g c =
    stands_on (held g.S.Store c.args.desk.now) (held g.S.Store c.enrolled_account.new.self)
    (held g.S.Store c.is_unused.new.self) c.enrolled_account.ensures.stands
    c.is_unused.ensures.stands
