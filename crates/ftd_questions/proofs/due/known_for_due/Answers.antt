use Rattle.std.proofs.Common.{subst}
use Rattle.ftd_store.proofs.Telling.{then_reads}
use Rattle.ftd_entries.specs.Known.{KnowsYear}
use Rattle.ftd_questions.specs.DueRows.{KnowsForDue}
use Rattle.ftd_questions.proofs.due.known_for_due.Goals as goal

pub returns : goal.returns
returns g c =
    let name = c.args.name.now in
    let there = c.in_ok-is_open.is_open in
    record {
      call = then_reads _ (KnowsForDue name c.args.quarter) c.in_ok-account.ensures.call
          c.in_ok-is_open.ensures.call (λ t account opened. record {
            account = account;
            is_open = subst (λ year. KnowsYear name year there t) c.year.ensures opened;
          });
    }
