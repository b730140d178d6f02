use Rattle.std.proofs.Common.{◌≡◌, ◌∙◌, ap, string_bytes}
use Rattle.ftd_shell.specs.Shells.{Ways, did, unread}
use Rattle.ftd_shell.proofs.shell.Shell.answer_job.Goals as goal

pub returns-in-Err-clause-does : goal.returns-in-Err-clause-does
returns-in-Err-clause-does g c =
    unread c.in-Err.unread.status c.deref.result.now c.in-Err.ensures.file c.in-Err.ensures.desk
    (record {
      status_is = c.print_line.ensures.status;
      out_is = c.print_line.ensures.out;
      line = c.print_line.ensures.line;
    })

pub returns-clause-does : goal.returns-clause-does
returns-clause-does g c =
    let db : c.as_str-db.result.now ≡ string_bytes c.args.self.now.db =
    c.as_str-db.ensures.value ∙ ap (λ (ways : Ways). ways.db) c.input_for.ensures.stays in
    did c.deref-2.result.now (rw (c.input_for.ensures.desk, db) at c.perform.ensures)
