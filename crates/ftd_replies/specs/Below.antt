-- What is said below a reply: lines that begin with `note: ` or `hint: `.
use Rattle.std.specs.Prelude.{ℕ, ◌&&◌, nat_lt, Bool, List, [], ◌∷◌, codes, if◌then◌else◌}
use Rattle.std.specs.List.{list_any}
use Rattle.ftd_days.specs.Text.{day_text}
use Rattle.ftd_machine.specs.Agenda.{depends_on_total}
use Rattle.ftd_machine.specs.declared.facts.Facts.{Facts}
use Rattle.ftd_machine.specs.declared.facts.Facts.TheVariants as facts
use Rattle.ftd_machine.specs.declared.lists.AgendaRow.{AgendaRow}
use Rattle.ftd_machine.specs.declared.replies.Reply.{Reply}
use Rattle.ftd_machine.specs.declared.replies.Reply.TheVariants as reply
use Rattle.ftd_machine.specs.declared.requests.Request.{Request}
use Rattle.ftd_machine.specs.declared.requests.Request.TheVariants as request
use Rattle.ftd_machine.specs.declared.requests.Entry.{Entry}
use Rattle.ftd_machine.specs.declared.requests.Entry.TheVariants as entry
use Rattle.ftd_answers.specs.Agendas.{left_cents}
use Rattle.ftd_replies.specs.Added.{changes_text}
use Rattle.ftd_replies.specs.Commands.{command_on}

-- a calendar that was given without days may be a mistake
abbrev pub holidays_hint : List ℕ → List ℕ → List ℕ
holidays_hint db [] =
    command_on (codes "hint: no holidays: is that meant? ftd add-holiday --db ") db (codes "DAY")
    (codes " adds one\n")
holidays_hint db (day ∷ days) = []

-- below a request that was done
abbrev pub done_hint : List ℕ → Request → List ℕ
done_hint db (request.Enter (entry.Calendar year days)) = holidays_hint db days
done_hint db other = []

-- below a request that was done before: a day was given or added, and may be taken back since
abbrev pub entry_already : List ℕ → Entry → List ℕ
entry_already db (entry.Holiday day) =
    command_on (codes "hint: if the day was taken back, ftd change-holiday --db ") db (day_text day)
    (codes " yes\n")
entry_already db other = []

abbrev pub already_hint : List ℕ → Request → List ℕ
already_hint db (request.Enter entered) = entry_already db entered
already_hint db other = []

-- below what is due over all accounts: something is left of a deposit that may be paid with its
-- return only if a total stays small, which may still grow
abbrev pub depends : AgendaRow → Bool
depends x = depends_on_total x && nat_lt 0 (left_cents x)

abbrev pub depends_hint : List ℕ
depends_hint =
    codes "hint: with-return: pay it with the return if the total for the return stays below 2500.00; if you are not sure of that, pay by the day shown\n"

abbrev pub rows_hint : List AgendaRow → List ℕ
rows_hint rows = if list_any depends rows then depends_hint else []

abbrev pub told_hint : Facts → List ℕ
told_hint (facts.Agenda agenda) = rows_hint agenda.rows
told_hint (facts.Owed owed) = rows_hint owed.rows
told_hint other = []

-- below the reply to a request, for the desk of this file
abbrev pub below_text : List ℕ → Request → Reply → List ℕ
below_text db asked reply.Done = done_hint db asked
below_text db asked reply.Already = already_hint db asked
below_text db asked (reply.Posted difference) = changes_text difference
below_text db asked (reply.Told told) = told_hint told
