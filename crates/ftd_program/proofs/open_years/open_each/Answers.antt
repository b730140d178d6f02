use Rattle.std.proofs.Common.{◌∙◌, ◌+◌, ◌++◌, ◌∷◌, List, ap, drop, sym}
use Rattle.std.proofs.lemmas.List.{take_all}
use Rattle.ftd_machine.specs.declared.requests.Request.{Request}
use Rattle.ftd_program.specs.OpenYears.{failed, unprinted, whole}
use Rattle.ftd_program.proofs.OpenYears.{failure_is, none_asked, one_asked, split_at}
use Rattle.ftd_program.proofs.open_years.open_each.Goals as goal

pub loop-request-init : goal.loop-request-init
loop-request-init g c = record {
  asked = none_asked g.S.Store g.O.Target.taken g.O.Target.failed g.E.Target.taken
      g.E.Target.failed c.args.out c.args.err c.args.desk.now c.args.db.now c.args.requests.now
      c.none-counts.result c.none-counts.ensures.opened c.none-counts.ensures.already
      c.none-counts.ensures.refused;
}

pub loop-request-preserved : goal.loop-request-preserved
loop-request-preserved g c = record {
  asked = one_asked g.S.Store g.O.Target.taken g.O.Target.failed g.E.Target.taken
      g.E.Target.failed c.args.out c.args.err c.args.desk.now c.args.db.now c.args.requests.now
      c.loop-request.out c.open_account.new.out c.loop-request.err c.open_account.new.err
      c.loop-request.desk c.open_account.new.desk c.loop-request.counts c.count.new.self
      c.loop-request.request-index c.request-item.result c.in-Ok.answer
      c.loop-request.invariant.asked c.loop-request-test.true c.request-item.is
      c.in-Ok.ensures (sym c.failure_in.ensures ∙ c.in-None.is)
      c.count.ensures.opened c.count.ensures.already c.count.ensures.refused
      c.count.ensures.grows;
}

pub returns-in-Err : goal.returns-in-Err
returns-in-Err g c =
    let so_far = c.loop-request.invariant.asked in
    let last = c.request-item.result in
    let later = drop (c.loop-request.request-index + 1) c.args.requests.now in
    let told = c.in-Err.ensures in
    unprinted so_far.answers last later told.0 c.loop-request.desk c.loop-request.out
    c.loop-request.err
    (split_at c.args.requests.now c.loop-request.request-index last c.loop-request-test.true
    c.request-item.is ∙ ap (λ (xs : List Request). xs ++ last ∷ later) (sym so_far.asked))
    so_far.each told.1
    (record {
      status_is = c.fail_output.ensures.status;
      part = rw c.fail_output.ensures.out told.2;
      failed = rw c.fail_output.ensures.out told.3;
      line = rw told.4 at c.fail_output.ensures.line;
    })

pub returns-in-Some : goal.returns-in-Some
returns-in-Some g c =
    let so_far = c.loop-request.invariant.asked in
    let last = c.request-item.result in
    let later = drop (c.loop-request.request-index + 1) c.args.requests.now in
    let is = failure_is c.in-Ok.answer c.in-Some.refusal (sym c.failure_in.ensures ∙ c.in-Some.is)
    in
    let prints = rw is.0 at c.in-Ok.ensures in
    failed so_far.answers last later c.in-Some.refusal c.loop-request.desk
    c.open_account.new.out c.loop-request.out c.loop-request.err c.open_account.new.err
    (split_at c.args.requests.now c.loop-request.request-index last c.loop-request-test.true
    c.request-item.is ∙ ap (λ (xs : List Request). xs ++ last ∷ later) (sym so_far.asked))
    so_far.each prints.0 is.1 prints.1 c.print_refusal.ensures

pub returns : goal.returns
returns g c =
    let so_far = c.loop-request.invariant.asked in
    whole so_far.answers c.loop-request.out c.loop-request.err
    (rw (take_all c.loop-request.request-index c.args.requests.now c.loop-request-test.false)
    at so_far.asked)
    so_far.each
    (rw (so_far.opened, so_far.already, so_far.refused) at c.print_counts.ensures)
