use Rattle.ftd_desk.specs.Desks.{held}
use Rattle.ftd_program.proofs.Mended.{keeps_on, stands_on}
use Rattle.ftd_program.proofs.OpenYears.{are_requests}
use Rattle.ftd_program.proofs.open_accounts.year_requests.Goals as goal

pub returns-clause-tells : goal.returns-clause-tells
returns-clause-tells g c =
    let a = held g.S.Store c.args.desk.now in
    let b = held g.S.Store c.all_accounts.new.desk in
    let later = c.requests_for.ensures.stands in
    λ clean s keeps. are_requests s c.args.year c.in_ok-accounts.accounts c.requests_for.result
    (c.in_ok-accounts.ensures.tells (later.honest clean) s keeps)
    (rw c.as_slice.ensures at (c.requests_for.ensures.tells clean s
    (keeps_on a b s c.all_accounts.ensures.stands (later.honest clean) keeps)))

pub returns-clause-stands : goal.returns-clause-stands
returns-clause-stands g c =
    stands_on (held g.S.Store c.args.desk.now) (held g.S.Store c.all_accounts.new.desk)
    (held g.S.Store c.requests_for.new.desk) c.all_accounts.ensures.stands
    c.requests_for.ensures.stands
