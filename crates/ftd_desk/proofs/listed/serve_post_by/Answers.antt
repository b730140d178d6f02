use Rattle.ftd_machine.specs.declared.requests.Request.TheVariants.{Post}
use Rattle.ftd_desk.proofs.Booking.{serves_read}
use Rattle.ftd_desk.proofs.listed.serve_post_by.Goals as goal

pub returns : goal.returns
returns g c =
    let run = c.args.run in
    let request = Post c.args.name.now c.args.number run in
    serves_read g.S.Store c.args.tx.now c.read.new.tx c.post_read.new.tx c.in_ok-found.found
    c.post_read.result c.args.known c.learned.result c.args.name.now c.year-year.result request
    c.learned.ensures.counts c.learned.ensures.books c.in_ok-found.ensures.call c.post_read.ensures
