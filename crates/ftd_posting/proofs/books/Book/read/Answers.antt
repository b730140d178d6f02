use Rattle.std.proofs.Common.{◌∙◌, None, Some, Ok, inr, sym}
use Rattle.ftd_store.specs.Frame.{Reads}
use Rattle.ftd_store.proofs.Telling.{then_reads}
use Rattle.ftd_entries.specs.Known.{KnowsAccount}
use Rattle.ftd_posting.proofs.Booking.{book_known}
use Rattle.ftd_posting.proofs.books.Book.read.Goals as goal

pub returns-then-not-there-clause-call : goal.returns-then-not-there-clause-call
returns-then-not-there-clause-call g c =
    then_reads None _ c.in_ok-account.ensures.call c.in_ok-there.ensures.call
    (λ t one two s stands sound. inr (two s stands ∙ c.if-not-there.true))

pub returns-clause-call : goal.returns-clause-call
returns-clause-call g c =
    let name = c.args.name.now in
    let days = c.in-Some-days_from.days in
    let account = c.in-Some.account in
    let ledger = c.in_ok-ledger.ledger in
    let told = c.in-Some-days_from.ensures in
    let found : Reads g.S.Store c.args.tx.now c.known_account.new.tx (Ok (Some account))
    (KnowsAccount name) = rw (sym c.in-Some.is) c.in_ok-account.ensures.call in
    let opened : Reads g.S.Store c.args.tx.now c.is_open.new.tx (Ok (Some account))
    (KnowsAccount name) =
    then_reads (Some account) (KnowsAccount name) found c.in_ok-there.ensures.call
    (λ t one two. one) in
    then_reads _ _ opened c.in_ok-ledger.ensures.call
    (λ t knows knows_ledger s stands sound. book_known name account c.args.year days ledger t
    told.of_year told.first told.last knows knows_ledger s stands sound)
