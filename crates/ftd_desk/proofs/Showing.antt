-- What an answer shows of the rows of the tables, from its first call to its last.
use Rattle.std.proofs.Common.{◌≡◌, true, sym, subst, arith, Option, None, Some}
use Rattle.std.proofs.Common.{Ok, Err}
use Rattle.std.proofs.lemmas.Bool.{true≢false}
use Rattle.sqlite.specs.Store as store
use Rattle.sqlite.specs.State as database
use Rattle.sqlite.specs.State.{HasCleanDisk}
use Rattle.ftd_sql.specs.Standing.{Tables, Stands}
use Rattle.ftd_sql.specs.States.{CrashKeeps}
use Rattle.ftd_store.specs.declared.tx.Tx.{Tx}
use Rattle.ftd_store.specs.Seen.{shown}
use Rattle.ftd_store.specs.Ends.{Begins}
use Rattle.ftd_store.specs.Frame.{Calls}
use Rattle.ftd_store.proofs.Going.{goes_on}
use Rattle.ftd_machine.specs.Checks.{Answer}
use Rattle.ftd_machine.specs.Laws.{is_change}
use Rattle.ftd_machine.specs.declared.facts.Facts.{Facts}
use Rattle.ftd_machine.specs.declared.facts.Facts.TheVariants as facts
use Rattle.ftd_machine.specs.declared.replies.Refusal.{Refusal}
use Rattle.ftd_machine.specs.declared.replies.Reply.TheVariants.{Told}
use Rattle.ftd_machine.specs.declared.requests.Question.{Question}
use Rattle.ftd_machine.specs.declared.requests.Question.TheVariants as questions
use Rattle.ftd_machine.specs.declared.requests.Request.{Request}
use Rattle.ftd_desk.specs.Shown.{Shows, ShowsIf, ShowsFor, ShowsAsked}
use Rattle.ftd_desk.specs.declared.listed.Answered.{Answered}
use Rattle.ftd_desk.specs.declared.requests.Served.{Served}

-- a refusal shows nothing, nor does an answer that tells of a change
refusal_tells : (question : Question) (refusal : Refusal) (t : Tables)
    → Shows question (Err refusal) t
refusal_tells (questions.Status name day) refusal t = tt
refusal_tells (questions.Explain name day) refusal t = λ told is. absurd cc
refusal_tells (questions.DueList name quarter as_of) refusal t = λ list is. absurd cc
refusal_tells (questions.ScheduleB name quarter) refusal t = tt
refusal_tells (questions.Agenda from to as_of) refusal t = λ list is. absurd cc
refusal_tells (questions.Owed until as_of) refusal t = λ list is. absurd cc
refusal_tells (questions.Unapplied until) refusal t = tt
refusal_tells (questions.Kept kept) refusal t = tt

pub refusal_shows : (asked : Option Question) (refusal : Refusal) (t : Tables)
    → ShowsIf asked (Err refusal) t
refusal_shows None refusal t = tt
refusal_shows (Some question) refusal t = refusal_tells question refusal t

no_change : (answer : Answer) (facts : Facts) → is_change answer ≡ true
    → answer ≡ Ok (Told facts) → ⊥
no_change answer facts changes is = true≢false (sym (rw is at changes))

change_tells : (question : Question) (answer : Answer) (t : Tables) → is_change answer ≡ true
    → Shows question answer t
change_tells (questions.Status name day) answer t changes = tt
change_tells (questions.Explain name day) answer t changes =
    λ told is. absurd (no_change answer (facts.Explained told) changes is)
change_tells (questions.DueList name quarter as_of) answer t changes =
    λ list is. absurd (no_change answer (facts.Due list) changes is)
change_tells (questions.ScheduleB name quarter) answer t changes = tt
change_tells (questions.Agenda from to as_of) answer t changes =
    λ list is. absurd (no_change answer (facts.Agenda list) changes is)
change_tells (questions.Owed until as_of) answer t changes =
    λ list is. absurd (no_change answer (facts.Owed list) changes is)
change_tells (questions.Unapplied until) answer t changes = tt
change_tells (questions.Kept kept) answer t changes = tt

pub change_shows : (asked : Option Question) (answer : Answer) (t : Tables)
    → is_change answer ≡ true → ShowsIf asked answer t
change_shows None answer t changes = tt
change_shows (Some question) answer t changes = change_tells question answer t changes

module _ {S : Type 0} (g : store.Ghosts S) where
  pub past_shows : (old new : Tx S) (served : Served) (past : Answered) (request : Request)
      → past.answer ≡ served.answer
      → Calls g old new (Ok served) (λ told before after t. ShowsFor request told.answer t)
      → Calls g old new (Ok past) (λ told before after t. ShowsFor request told.answer t)
  past_shows old new served past request same c = record {
    frame = goes_on g old new served past c.frame;
    does = λ clean t stands. subst (λ said. ShowsFor request said t) (sym same)
        (c.does clean t stands);
  }

  -- from the beginning of the transaction to its end
  pub asked_shows : (a e : database.State) (request : Request) (old new : Tx S) (served : Answered)
      → (HasCleanDisk (shown g old) → Begins a (shown g old))
      → CrashKeeps (shown g new) e
      → Calls g old new (Ok served) (λ told before after t. ShowsFor request told.answer t)
      → ShowsAsked a e request served.answer
  asked_shows a e request old new served begun dropped c clean t stands =
      let clean_m : HasCleanDisk (shown g new) = omega (arith, dropped.clean) in
      let clean_b : HasCleanDisk (shown g old) = omega (arith, c.frame.crash.clean) in
      let start = (begun clean_b).shows.now_is in
      c.does clean_m t (subst (λ db. Stands db t) (sym start) stands)
