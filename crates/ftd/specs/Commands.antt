-- What the shell of a server responds to messages.
use Rattle.std.specs.Prelude.{◌≡◌, ℕ, Bool, false, List, [], Option, Some}
use Rattle.std.specs.Global.{Vec}
use Rattle.std.specs.String.{string_bytes}
use Rattle.sqlite.specs.Store as store
use Rattle.ftd_ports.specs.Ports.{has_failed}
use Rattle.ftd_ports.specs.declared.port.Port.{Port}
use Rattle.ftd_desk.specs.declared.desk.Desk.{Desk}
use Rattle.ftd_shell.specs.Scripts.{AnswersScript}
use Rattle.ftd_shell.specs.Shells.{Ways, said_by, said_in}
use Rattle.ftd_program.specs.declared.performing.JobEnd.{JobEnd}
use Rattle.ftd_shell.specs.declared.shell.Shell.{Shell}
use Rattle.ftd_forms.specs.Sent.{AnswersSent}
use Rattle.ftd_forms.specs.Shown.{ShowsForm, forms_said}
use Rattle.ftd_http.specs.declared.ask.Inquiry.{Inquiry}
use Rattle.ftd_http.specs.declared.ask.Inquiry.TheVariants as asked
use Rattle.ftd_server.specs.Accounts.{TellsAccount}
use Rattle.ftd_connections.specs.Home.{home}
use Rattle.ftd_server.specs.Replying.{Responds as RespondsByRequests}
use Rattle.ftd_connections.specs.Responses.{Said}
use Rattle.ftd_server.specs.Tables.{handles}
use Rattle.ftd_server.specs.Turns.{asks}
use Rattle.ftd.specs.Journals.{TellsJournal}
use Rattle.ftd.specs.Written.{written_response}

-- the file of the shell's desk, as hints name it
abbrev pub file_of : {S F : Type 0} → Shell S F → List ℕ
file_of shell = string_bytes shell.db

-- a server's shell does no imports, and shows nothing beside its answers
abbrev pub server_ways : List ℕ → Ways
server_ways db = record {
  db = db;
  does_imports = false;
  shows = record { commands = false; lines = false };
}

module _ {S : Type 0} (g : store.Ghosts S) where
  -- the lines of a body were answered by the shell of this file, and what it wrote stands in
  -- memory; it may have failed to read them to their end for want of memory
  pub record AnswersBody (old new : Desk S) (db body : List ℕ)
      (end : JobEnd (Port (Vec ℕ)) (Port (Vec ℕ))) : Type 0 where
    pub out : Port (Vec ℕ)
    pub is_out : said_in out ≡ []
    pub err : Port (Vec ℕ)
    pub is_err : said_in err ≡ []
    pub failed : Bool
    pub answers : AnswersScript g said_by has_failed said_by has_failed out err end old new
        (server_ways db) (Some body) failed false

  -- the response to them has what was written and the exit status
  pub record RespondsToBody (old new : Desk S) (db body : List ℕ) (said : Said) : Type 0 where
    pub end : JobEnd (Port (Vec ℕ)) (Port (Vec ℕ))
    pub answers : AnswersBody old new db body end
    pub is : said ≡ written_response (said_in end.out) (said_in end.err) end.status

  -- Commands are answered by the shell, and who asks for a journal is told its lines. The first
  -- page leads to what is owed on the day that the clock told last, the pages of an account and of
  -- forms are those of this day, and all else is answered by the desk alone, whose pages have the
  -- ways of the day.
  abbrev pub RespondsOver : Option ℕ → Desk S → Desk S → List ℕ → Inquiry → List ℕ → Said → Type 0
  RespondsOver told old new db asked.Commands body said = RespondsToBody old new db body said
  RespondsOver told old new db (asked.Journal account) body said =
      TellsJournal g old new account said
  RespondsOver told old new db asked.Home body said = (new ≡ old) × (said ≡ home told)
  RespondsOver told old new db (asked.Account account) body said =
      TellsAccount g told old new account said
  RespondsOver told old new db asked.Forms body said = (new ≡ old) × (said ≡ forms_said told)
  RespondsOver told old new db (asked.Form verb account payable) body said =
      ShowsForm g told old new verb account payable said
  RespondsOver told old new db (asked.Sent verb) body said =
      AnswersSent g db told old new verb body said
  RespondsOver told old new db other body said =
      RespondsByRequests (handles g) told old other said new

  module _ {F : Type 0} where
    -- the shell before a message, what that asks, its body, the response, and the shell after it,
    -- whose desk is in the same file; `told` has the day that the clock told last
    abbrev pub Responds : (F → Option ℕ) → Shell S F → Inquiry → List ℕ → Said → Shell S F
        → Type 0
    Responds told old asked body said new =
        RespondsOver (told new.inputs) old.desk new.desk (file_of old) asked body said
        × (file_of new ≡ file_of old)

    -- the desk is asked whether it still answers
    abbrev pub AsksDesk : Shell S F → Bool → Shell S F → Type 0
    AsksDesk old answers new =
        asks g old.desk answers new.desk × (file_of new ≡ file_of old)
