use Rattle.ftd_machine.specs.Journal.{journal}
use Rattle.ftd_replies.proofs.JournalValues.{journal_lined}
use Rattle.ftd_replies.proofs.RequestLines.{lines_ask}
use Rattle.ftd_replies.proofs.laws.a_journal_asks_its_requests.Goals as goal

pub returns : goal.returns
returns c = record {
  writable = λ s request sound has. (journal_lined s sound request has).0;
  short = λ s request sound has. (journal_lined s sound request has).1;
  asks = λ s db today sound. lines_ask today db (journal s) (journal_lined s sound);
}
