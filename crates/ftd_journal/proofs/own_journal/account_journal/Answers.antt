use Rattle.std.proofs.Common.{◌≡◌, Global, None, Some, rules, subst}
use Rattle.ftd_store.proofs.Telling.{reads_on, then_reads}
use Rattle.ftd_entries.specs.Known.{KnowsEnrolled}
use Rattle.ftd_journal.specs.Parts.{KnowsJournal}
use Rattle.ftd_journal.proofs.OwnKnown.{journal_none, journal_some}
use Rattle.ftd_journal.proofs.own_journal.account_journal.Goals as goal

pub returns-in_default : goal.returns-in_default
returns-in_default g c =
    let name = c.args.name.now in
    let none : c.in_ok-account.field-0 ≡ None = search rules in
    record {
      call = reads_on None (KnowsJournal name) c.in_ok-account.ensures.call
          (λ t knows. journal_none Global name t (subst (λ f. KnowsEnrolled name f t) none knows));
    }

pub returns : goal.returns
returns g c =
    let name = c.args.name.now in
    let requests = c.in_ok-requests.requests in
    record {
      call = then_reads (Some requests) (KnowsJournal name) c.in_ok-account.ensures.call
          c.in_ok-requests.ensures.call (λ t knows adds.
          journal_some name c.in-Some.account requests t
          (subst (λ f. KnowsEnrolled name f t) c.in-Some.is knows) adds);
    }
