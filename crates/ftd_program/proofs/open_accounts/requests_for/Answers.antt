use Rattle.std.proofs.lemmas.List.{take_all}
use Rattle.ftd_desk.specs.Desks.{held}
use Rattle.ftd_program.proofs.Mended.{keeps_on, stands_on}
use Rattle.ftd_program.proofs.OpenYears.{requests_more}
use Rattle.ftd_program.proofs.open_accounts.requests_for.Goals as goal

pub returns-in_err-add_year_request-clause-stands
    : goal.returns-in_err-add_year_request-clause-stands
returns-in_err-add_year_request-clause-stands g c =
    stands_on (held g.S.Store c.args.desk.now) (held g.S.Store c.loop-account.desk)
    (held g.S.Store c.add_year_request.new.desk) c.loop-account.invariant.stands
    c.add_year_request.ensures.stands

pub loop-account-preserved : goal.loop-account-preserved
loop-account-preserved g c =
    let a = held g.S.Store c.args.desk.now in
    let b = held g.S.Store c.loop-account.desk in
    let d = held g.S.Store c.add_year_request.new.desk in
    let later = c.add_year_request.ensures.stands in
    record {
      stands = stands_on a b d c.loop-account.invariant.stands later;
      so_far = λ clean s keeps. requests_more s c.args.year c.loop-account.account-index
          c.args.accounts.now c.account-item.result c.loop-account.requests.items
          c.add_year_request.new.requests.items c.loop-account-test.true c.account-item.is
          (c.loop-account.invariant.so_far (later.honest clean) s keeps)
          (c.in_ok-add_year_request.ensures.added clean s
          (keeps_on a b s c.loop-account.invariant.stands (later.honest clean) keeps));
    }

pub returns-clause-tells : goal.returns-clause-tells
returns-clause-tells g c = λ clean s keeps.
    let so_far = c.loop-account.invariant.so_far clean s keeps in
    rw (take_all c.loop-account.account-index c.args.accounts.now c.loop-account-test.false)
    at so_far
