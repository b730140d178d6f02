-- What is printed of a journal: the commands that make the same desk, or the same account.
use Rattle.std.specs.Prelude.{◌≡◌, ℕ, Bool, true, List, Option, Some, None, Result, Ok, Err, codes}
use Rattle.std.specs.Prelude.{IfErr, OnErr, OnOk}
use Rattle.std.specs.Io.KnownBytes.{Appends}
use Rattle.sqlite.specs.State.{HasCleanDisk}
use Rattle.sqlite.specs.Store as store
use Rattle.ftd_journal.specs.Parts.{journal_of}
use Rattle.ftd_machine.specs.Journal.{journal}
use Rattle.ftd_machine.specs.Questions.{kept_asked}
use Rattle.ftd_machine.specs.Runs.{IsFault}
use Rattle.ftd_machine.specs.Sound.{IsSound}
use Rattle.ftd_machine.specs.State.{State}
use Rattle.ftd_machine.specs.declared.replies.Refusal.{Refusal}
use Rattle.ftd_machine.specs.declared.requests.KeptList.TheVariants as kept
use Rattle.ftd_machine.specs.declared.requests.Request.{Request}
use Rattle.ftd_desk.specs.Desks.{Held, KeepsIfOpen, held}
use Rattle.ftd_desk.specs.Telling.{StandsAsBefore}
use Rattle.ftd_desk.specs.declared.desk.Desk.{Desk}
use Rattle.ftd_ports.specs.Writing.{WritesPrefix}
use Rattle.ftd_replies.specs.Putting.{IsPut}
use Rattle.ftd_replies.specs.RequestLines.{lines_of}
use Rattle.ftd_replies.specs.declared.hints.HintFacts.TheVariants.{Nothing}
use Rattle.ftd_verbs.specs.Formats.{as_text}
use Rattle.ftd_program.specs.Performing.{Performs, PrintsOut, PrintsRefusal}
use Rattle.ftd_program.specs.declared.journal.JournalFault.{JournalFault}
use Rattle.ftd_program.specs.declared.journal.JournalFault.TheVariants as fault
use Rattle.ftd_program.specs.declared.performing.JobEnd.{JobEnd}

-- the requests whose refusals a journal that is not there is told by: its years of an account, and
-- all accounts
abbrev pub own_asked : List ℕ → Request
own_asked name = kept_asked (kept.Years name)

abbrev pub all_asked : Request
all_asked = kept_asked kept.Accounts

-- a sound state for which the desk stands, if its connection is open
abbrev pub StoodFor : Held → State → Type 0
StoodFor h s = KeepsIfOpen h s × IsSound s

-- there was no memory, or the store failed; or what it is written to has failed
abbrev pub IsJournalFault : JournalFault → Bool → Type 0
IsJournalFault (fault.Desk refusal) failed = IsFault (Err refusal)
IsJournalFault fault.Output failed = failed ≡ true

module _ {S O : Type 0} (g : store.Ghosts S) (taken : O → Option (List ℕ)) (failed : O → Bool) where
  -- the lines of a part of the journal were written whole, or a prefix of them; the desk stands as
  -- before
  pub record WritesPart (old new : Desk S) (before after : O) (result : Result (Unit {0}) JournalFault) (part : State → List Request) : Type 0 where
    pub stands : StandsAsBefore (held g old) (held g new)
    pub whole : HasCleanDisk (held g new).db → (s : State) → StoodFor (held g old) s
        → OnOk result (Appends (taken before) (taken after) (lines_of (part s)))
    pub prefix : HasCleanDisk (held g new).db → (s : State) → StoodFor (held g old) s
        → OnErr result (WritesPrefix (taken before) (taken after) (lines_of (part s)))
    pub fault : IfErr result (λ fault. IsJournalFault fault (failed after))

module _ {S O E : Type 0} (g : store.Ghosts S) (o_taken : O → Option (List ℕ)) (o_failed : O → Bool)
    (e_taken : E → Option (List ℕ)) (e_failed : E → Bool)
    (out : O) (err : E) (p : JobEnd O E) where
  -- the journal of the desk was printed; or standard output took no more than a prefix of it; or
  -- there was no memory, or the store failed, after a prefix
  pub data PrintsJournal (old new : Desk S) (db : List ℕ) : Type 0 where
    whole : WritesPart g o_taken o_failed old new out p.out (Ok tt) journal → p.status ≡ 0
        → p.err ≡ err → PrintsJournal old new db
    unprinted : WritesPart g o_taken o_failed old new out p.out (Err fault.Output) journal
        → p.status ≡ 3
        → IsPut (e_taken err) (e_taken p.err) (e_failed p.err) (codes "failed Output\n")
        → PrintsJournal old new db
    unread : (refusal : Refusal) (shown : O)
        → WritesPart g o_taken o_failed old new out shown (Err (fault.Desk refusal)) journal
        → PrintsRefusal o_taken o_failed e_taken e_failed shown err p db all_asked Nothing refusal
        → PrintsJournal old new db

  -- the journal of the account of the name was printed; or no account has the name, and it was
  -- answered as its years are; or there was no memory, or the store failed
  pub data PrintsOwn (old new : Desk S) (db name : List ℕ) : Type 0 where
    told : (requests : List Request)
        → (HasCleanDisk (held g new).db → (s : State) → StoodFor (held g old) s
        → journal_of s name ≡ Some requests)
        → StandsAsBefore (held g old) (held g new)
        → PrintsOut o_taken o_failed e_taken e_failed out err p 0 (lines_of requests)
        → PrintsOwn old new db name
    unknown : (between : Desk S)
        → (HasCleanDisk (held g between).db → (s : State) → StoodFor (held g old) s
        → journal_of s name ≡ None)
        → StandsAsBefore (held g old) (held g between)
        → Performs o_taken o_failed e_taken e_failed out err p (held g between) (held g new) db
        as_text (own_asked name)
        → PrintsOwn old new db name
    unread : (refusal : Refusal) → IsFault (Err refusal)
        → StandsAsBefore (held g old) (held g new)
        → PrintsRefusal o_taken o_failed e_taken e_failed out err p db (own_asked name) Nothing
        refusal
        → PrintsOwn old new db name

  -- the journal of all, or of one account
  abbrev pub Journals : Desk S → Desk S → List ℕ → Option (List ℕ) → Type 0
  Journals old new db None = PrintsJournal old new db
  Journals old new db (Some name) = PrintsOwn old new db name
