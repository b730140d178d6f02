use Rattle.ftd_desk.proofs.Booking.{serves_past}
use Rattle.ftd_desk.proofs.Repairing.{past_repairs}
use Rattle.ftd_desk.proofs.Showing.{past_shows}
use Rattle.ftd_desk.proofs.listed.serve_alone.Goals as goal

pub returns : goal.returns
returns g c =
    let served = c.in_ok-served.served in
    record {
      call = serves_past g.S.Store c.args.tx.now c.serve.new.tx c.args.known c.args.request.now
          served c.past.result c.past.ensures.answer c.past.ensures.counts c.past.ensures.books
          c.in_ok-served.ensures.call;
      repairs = past_repairs g.S.Store c.args.tx.now c.serve.new.tx served c.past.result
          c.args.request.now c.past.ensures.answer c.in_ok-served.ensures.repairs;
      shows = past_shows g.S.Store c.args.tx.now c.serve.new.tx served c.past.result
          c.args.request.now c.past.ensures.answer c.in_ok-served.ensures.shows;
    }
