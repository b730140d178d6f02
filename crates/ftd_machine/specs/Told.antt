-- What a question is answered where nothing speaks against it: what is told, with what it was asked
-- for.
use Rattle.std.specs.Prelude.{ℕ, List, Option, Ok}
use Rattle.ftd_rules.specs.declared.DaySum.{DaySum}
use Rattle.ftd_rules.specs.declared.Kind.{Kind}
use Rattle.ftd_rules.specs.declared.verdict.DueRow.{DueRow}
use Rattle.ftd_machine.specs.Checks.{Answer}
use Rattle.ftd_machine.specs.declared.explained.Explanation.{Explanation}
use Rattle.ftd_machine.specs.declared.facts.Facts.{Facts}
use Rattle.ftd_machine.specs.declared.facts.Facts.TheVariants as facts
use Rattle.ftd_machine.specs.declared.kept.KeptRows.{KeptRows}
use Rattle.ftd_machine.specs.declared.lists.AgendaRow.{AgendaRow}
use Rattle.ftd_machine.specs.declared.lists.UnappliedRow.{UnappliedRow}
use Rattle.ftd_machine.specs.declared.replies.Reason.{Reason}
use Rattle.ftd_machine.specs.declared.replies.Reply.TheVariants.{Told}

-- the deposit schedule of a day, and why
abbrev pub status_answer : ℕ → Kind → Reason → Answer
status_answer day kind reason =
    Ok (Told (facts.Status (record { day = day; kind = kind; reason = reason })))

-- why the obligation of an account that holds a day is so
abbrev pub explained_answer : List ℕ → ℕ → Option Explanation → Answer
explained_answer account day found =
    Ok (Told (facts.Explained (record { account = account; day = day; found = found })))

-- the due list of an account's quarter as of a day
abbrev pub due_facts : List ℕ → ℕ → ℕ → List DueRow → Facts
due_facts account quarter as_of rows =
    facts.Due (record { account = account; quarter = quarter; as_of = as_of; rows = rows })

abbrev pub due_answer : List ℕ → ℕ → ℕ → List DueRow → Answer
due_answer account quarter as_of rows = Ok (Told (due_facts account quarter as_of rows))

-- the liability of an account's quarter by day
abbrev pub days_answer : List ℕ → ℕ → List DaySum → Answer
days_answer account quarter sums =
    Ok (Told (facts.Days (record { account = account; quarter = quarter; sums = sums })))

-- what is due between two days, and what is due until a day and not paid, as of a day
abbrev pub agenda_answer : ℕ → ℕ → ℕ → List AgendaRow → Answer
agenda_answer from to as_of rows =
    Ok (Told (facts.Agenda (record { from = from; to = to; as_of = as_of; rows = rows })))

abbrev pub owed_answer : ℕ → ℕ → List AgendaRow → Answer
owed_answer until as_of rows =
    Ok (Told (facts.Owed (record { until = until; as_of = as_of; rows = rows })))

-- money that counts for nothing, of the days up to one
abbrev pub unapplied_answer : ℕ → List UnappliedRow → Answer
unapplied_answer until rows = Ok (Told (facts.Unapplied (record { until = until; rows = rows })))

-- what is kept
abbrev pub kept_answer : KeptRows → Answer
kept_answer kept = Ok (Told (facts.Kept kept))
