use Rattle.std.proofs.Common.{◌∙◌, Global, Option, Vec, ap}
use Rattle.std.specs.Prelude.{option_map}
use Rattle.ftd_machine.specs.declared.requests.Request.{Request}
use Rattle.ftd_program.specs.Journals.{told, unknown, unread}
use Rattle.ftd_program.proofs.Journaled.{own_known}
use Rattle.ftd_program.proofs.journal.own_journal.Goals as goal

pub returns-in-Ok-Some : goal.returns-in-Ok-Some
returns-in-Ok-Some g c =
    told c.in-Ok-Some.requests.items (λ clean s stood.
    own_known c.in-Ok-Some.field-0 s c.as_str.result.now c.args.account c.as_str.ensures
    (c.in-Ok-Some.ensures.knows clean s stood.0)
    ∙ ap (λ (o : Option (Vec Request Global)). option_map (λ it. it.items) o)
    c.in-Ok-Some.field-0-is)
    c.account_journal-found.ensures.stands (rw c.deref.ensures.value at c.print_lines.ensures)

pub returns-in-Ok-None : goal.returns-in-Ok-None
returns-in-Ok-None g c =
    unknown c.account_journal-found.new.self (λ clean s stood.
    own_known c.in-Ok-None.field-0 s c.as_str.result.now c.args.account c.as_str.ensures
    (c.in-Ok-None.ensures.knows clean s stood.0)
    ∙ ap (λ (o : Option (Vec Request Global)). option_map (λ it. it.items) o)
    c.in-Ok-None.field-0-is)
    c.account_journal-found.ensures.stands c.answer.ensures

pub returns : goal.returns
returns g c =
    unread c.in-Err.refusal c.in-Err.ensures.fault c.account_journal-found.ensures.stands
    c.print_refusal.ensures
