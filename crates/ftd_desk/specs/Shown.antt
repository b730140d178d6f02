-- What an answer shows of the rows of the tables, whatever else these hold.
use Rattle.std.specs.Prelude.{Option, None, Some, ⊤}
use Rattle.sqlite.specs.State as database
use Rattle.sqlite.specs.State.{HasCleanDisk}
use Rattle.ftd_sql.specs.Standing.{Tables, Stands}
use Rattle.ftd_machine.specs.Checks.{Answer}
use Rattle.ftd_machine.specs.Questions.{question_of}
use Rattle.ftd_machine.specs.declared.requests.Question.{Question}
use Rattle.ftd_machine.specs.declared.requests.Request.{Request}
use Rattle.ftd_machine.specs.declared.requests.Question.TheVariants.{Agenda, DueList, Explain, Owed}
use Rattle.ftd_kept.specs.Explained.{ShowsExplained}
use Rattle.ftd_questions.specs.Shown.{ShowsAgenda, ShowsList, ShowsOwed}

-- a due list, an agenda, what is owed and an explanation show the tables' rows as they stand
abbrev pub Shows : Question → Answer → Tables → Type 0
Shows (Explain name day) answer t = ShowsExplained name day answer t
Shows (DueList name quarter as_of) answer t = ShowsList name quarter answer t
Shows (Agenda from to as_of) answer t = ShowsAgenda from to answer t
Shows (Owed until as_of) answer t = ShowsOwed until as_of answer t
Shows other answer t = ⊤

-- of a request that is a question, its answer shows the tables' rows as they stand
abbrev pub ShowsIf : Option Question → Answer → Tables → Type 0
ShowsIf None answer t = ⊤
ShowsIf (Some question) answer t = Shows question answer t

abbrev pub ShowsFor : Request → Answer → Tables → Type 0
ShowsFor request answer t = ShowsIf (question_of request) answer t

-- over any tables with the desk's columns, whether they stand for a state or not
abbrev pub ShowsAsked : database.State → database.State → Request → Answer → Type 0
ShowsAsked old new request answer =
    HasCleanDisk new → (t : Tables) → Stands old.now t → ShowsFor request answer t
