-- What a server responds to who asks for the journal of the desk, or of an account.
use Rattle.std.specs.Prelude.{◌≡◌, ℕ, List, Option, Some, None, Vec, Result, Ok, Err}
use Rattle.sqlite.specs.State.{HasCleanDisk}
use Rattle.sqlite.specs.Store as store
use Rattle.ftd_machine.specs.Journal.{journal}
use Rattle.ftd_machine.specs.Runs.{IsFault}
use Rattle.ftd_machine.specs.State.{State}
use Rattle.ftd_machine.specs.declared.replies.Refusal.{Refusal}
use Rattle.ftd_machine.specs.declared.requests.Request.{Request}
use Rattle.ftd_journal.specs.Parts.{journal_of}
use Rattle.ftd_desk.specs.Desks.{held}
use Rattle.ftd_desk.specs.Telling.{StandsAsBefore}
use Rattle.ftd_desk.specs.declared.desk.Desk.{Desk}
use Rattle.ftd_replies.specs.RequestLines.{lines_of}
use Rattle.ftd_program.specs.Journals.{StoodFor, own_asked}
use Rattle.ftd_verbs.specs.Formats.{as_text}
use Rattle.ftd_http.specs.declared.ask.Inquiry.{Inquiry}
use Rattle.ftd_http.specs.declared.ask.Inquiry.TheVariants as asked
use Rattle.ftd_server.specs.Refusals.{refused}
use Rattle.ftd_server.specs.Replying.{Responds}
use Rattle.ftd_connections.specs.Responses.{Said, formatted}
use Rattle.ftd_server.specs.Tables.{handles}

-- the response with these lines as plain text, or to the refusal that came in place of them
abbrev pub told_or_refused : {A : Type 0} → Result (Vec ℕ A) Refusal → Said
told_or_refused (Ok lines) = formatted as_text lines.items
told_or_refused (Err refusal) = refused refusal

-- what asks for the years of the account of this name
abbrev pub years_asked : List ℕ → Inquiry
years_asked name = asked.Asks as_text (own_asked name)

module _ {S : Type 0} (g : store.Ghosts S) where
  -- The body of the response is the lines of the journal of each sound state for which the desk
  -- stands; or there was no memory, or the store failed, and the response says that, with status
  -- 500. The desk stands as before.
  pub data TellsWhole (old new : Desk S) (said : Said) : Type 0 where
    told : (lines : List ℕ)
        → (HasCleanDisk (held g new).db → (s : State) → StoodFor (held g old) s
        → lines ≡ lines_of (journal s))
        → StandsAsBefore (held g old) (held g new) → said ≡ formatted as_text lines
        → TellsWhole old new said
    unread : (refusal : Refusal) → IsFault (Err refusal)
        → StandsAsBefore (held g old) (held g new) → said ≡ refused refusal
        → TellsWhole old new said

  -- The body of the response is the lines of the journal of the account of this name, in each sound
  -- state for which the desk stands; or no account of these states has the name, and the response
  -- is that of the desk to who asks for the years of the account; or there was no memory, or the
  -- store failed, and the response says that.
  pub data TellsOwn (old new : Desk S) (name : List ℕ) (said : Said) : Type 0 where
    told : (requests : List Request)
        → (HasCleanDisk (held g new).db → (s : State) → StoodFor (held g old) s
        → journal_of s name ≡ Some requests)
        → StandsAsBefore (held g old) (held g new) → said ≡ formatted as_text (lines_of requests)
        → TellsOwn old new name said
    unknown : (between : Desk S)
        → (HasCleanDisk (held g between).db → (s : State) → StoodFor (held g old) s
        → journal_of s name ≡ None)
        → StandsAsBefore (held g old) (held g between)
        → Responds (handles g) None between (years_asked name) said new → TellsOwn old new name said
    unread : (refusal : Refusal) → IsFault (Err refusal)
        → StandsAsBefore (held g old) (held g new) → said ≡ refused refusal
        → TellsOwn old new name said

  -- so of the account that is named, or of the desk where none is
  abbrev pub TellsJournal : Desk S → Desk S → Option (List ℕ) → Said → Type 0
  TellsJournal old new None said = TellsWhole old new said
  TellsJournal old new (Some name) said = TellsOwn old new name said
