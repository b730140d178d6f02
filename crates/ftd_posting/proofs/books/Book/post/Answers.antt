use Rattle.std.proofs.Common.{rules, refl, subst}
use Rattle.std.specs.Prelude.{IfSome}
use Rattle.ftd_posting.specs.Books.{IsReached}
use Rattle.ftd_posting.proofs.Booking.{looked_by, added_by, added_new}
use Rattle.ftd_posting.proofs.books.Book.post.Goals as goal
use Rattle.ftd_posting.proofs.books.Book.post.Goals.{then-not-is_new+in_ok-kept+in_default}
use Rattle.ftd_posting.proofs.books.Book.post.Goals.{else-not-is_new}

pub returns-in-Err-clause-call : goal.returns-in-Err-clause-call
returns-in-Err-clause-call g c =
    looked_by g.S.Store c.args.name.now c.args.number c.args.run c.args.count c.args.self.now
    c.in_ok-kept.kept c.args.tx.now c.run.new.self c.in-Err.answer
    (search rules) c.in_ok-kept.ensures.call

pub returns-clause-call : goal.returns-clause-call
returns-clause-call g c =
    let reached = subst (λ known. IfSome c.reached-self.result (IsReached known c.args.number))
    c.greatest_of-greatest.ensures c.reached-self.ensures in elim c.if-not-is_new.branch [
      | then-not-is_new+in_ok-kept+in_default w ↦
          added_by g.S.Store c.args.name.now c.args.number c.args.run c.args.count c.args.self.now
          w.in_ok-kept.kept _ c.in_ok-difference.difference (search rules)
          c.requires.since c.in_ok-difference.ensures.sums
          c.in_ok-difference.ensures.holidays refl refl c.in_ok-difference.ensures.since reached
          c.args.tx.now w.run.new.self c.add.new.tx w.in_ok-kept.ensures.call
          (rw w.tx-is at c.in_ok-difference.ensures.call)
      | else-not-is_new w ↦
          added_new g.S.Store c.args.name.now c.args.number c.args.run c.args.count c.args.self.now
          _ _ c.in_ok-difference.difference (search rules)
          c.requires.since c.in_ok-difference.ensures.sums
          c.in_ok-difference.ensures.holidays refl refl c.in_ok-difference.ensures.since reached
          c.args.tx.now c.add.new.tx refl (search rules)
          (rw w.tx-is at c.in_ok-difference.ensures.call)
    ]
