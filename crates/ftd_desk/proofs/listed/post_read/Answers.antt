use Rattle.ftd_machine.specs.declared.requests.Request.TheVariants.{Post}
use Rattle.ftd_desk.proofs.Booking.{serves_past}
use Rattle.ftd_desk.proofs.listed.post_read.Goals as goal

pub returns : goal.returns
returns g c =
    let run = c.args.run in
    let request = Post c.args.name.now c.args.number run in
    serves_past g.S.Store c.args.tx.now c.serve_post.new.tx c.args.known request
    c.in_ok-served.served c.past.result c.past.ensures.answer c.past.ensures.counts
    c.past.ensures.books c.in_ok-served.ensures.call
