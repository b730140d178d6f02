use Rattle.std.proofs.Common.{rules, refl}
use Rattle.ftd_store.specs.Finds.{CountsRuns}
use Rattle.ftd_desk.specs.Kept.{kept_of}
use Rattle.ftd_desk.proofs.Booking.{serves_post_at}
use Rattle.ftd_desk.proofs.Counting.{not_known, known_fails}
use Rattle.ftd_desk.proofs.Keeping.{kept_at, changed}
use Rattle.ftd_desk.proofs.listed.post_at.Goals as goal

pub returns-in_err-count : goal.returns-in_err-count
returns-in_err-count g c =
    let name = c.args.name.now in
    not_known g.S.Store c.args.tx.now c.count_runs.new.tx (kept_of c.args.known.counts.runs name)
    (CountsRuns name) c.in_err-count.field-0.0 c.from_residual.result _
    (search rules) c.in_err-count.ensures

pub returns-in_err-answer : goal.returns-in_err-answer
returns-in_err-answer g c =
    let name = c.args.name.now in
    known_fails g.S.Store c.args.tx.now c.count_runs.new.tx (kept_of c.args.known.counts.runs name)
    (CountsRuns name) c.post.new.tx c.in_ok-count.count c.in_err-answer.field-0.0
    c.from_residual-in_err-answer.result _ (search rules) c.in_ok-count.ensures
    c.in_err-answer.ensures.call.frame

pub returns : goal.returns
returns g c =
    let books = c.args.known.books.entries.items in
    let name = c.args.name.now in
    let place = c.args.place in
    let item = c.index_mut.result.now in
    let stands = c.requires.ready.stands in
    serves_post_at g.S.Store c.args.tx.now c.count_runs.new.tx c.post.new.tx c.in_ok-count.count
    c.in_ok-answer.answer c.args.known _ name c.args.number c.args.run item.content c.post.new.self
    refl c.keep.ensures
    (kept_at books name place item stands c.index_mut.ensures.value)
    (changed books name _ place item c.post.new.self stands c.index_mut.ensures.value refl)
    c.in_ok-count.ensures c.in_ok-answer.ensures.call
