-- What a server tells, and its connections one after the other.
use Rattle.std.specs.Prelude.{◌≡◌, ◌≢◌, ℕ, ◌+◌, List, [], ◌∷◌, ◌++◌, length, All, Bool, true}
use Rattle.std.specs.Prelude.{Option, Some, None, Result, Ok, Err, codes}
use Rattle.std.specs.Fmt.{decimal}
use Rattle.std.specs.Io.KnownBytes.{Appends, Keeps}
use Rattle.ftd_ports.specs.declared.writing.WriteFault.{WriteFault}
use Rattle.ftd_ports.specs.Writing.{WritesPrefix}
use Rattle.ftd_connections.specs.declared.connection.Cause.{Cause}
use Rattle.ftd_connections.specs.declared.connection.Cause.TheVariants as why
use Rattle.ftd_connections.specs.declared.connection.ServeFault.{ServeFault}
use Rattle.ftd_connections.specs.declared.connection.ServedConnection.{ServedConnection}
use Rattle.ftd_connections.specs.declared.outcome.Outcome.{Outcome}
use Rattle.ftd_connections.specs.declared.outcome.Outcome.TheVariants as outcome
use Rattle.ftd_connections.specs.declared.outcome.Turn.{Turn}
use Rattle.ftd_connections.specs.declared.stop.Stop.{Stop}
use Rattle.ftd_connections.specs.declared.stop.Stop.TheVariants as stop

-- what became of a connection that was served, or failed
abbrev pub outcome_of : Result ServedConnection ServeFault → Outcome
outcome_of (Ok served) = outcome.Served
outcome_of (Err fault) = outcome.Failed fault.cause

abbrev pub line_end : List ℕ
line_end = 10 ∷ []

abbrev pub cause_text : Cause → List ℕ
cause_text why.Read = codes "Read"
cause_text why.Write = codes "Write"
cause_text why.Memory = codes "Memory"

-- where the server listens
abbrev pub listening_line : ℕ → List ℕ
listening_line port = codes "listening 127.0.0.1:" ++ (decimal port ++ line_end)

-- the connection of this number failed, and why
abbrev pub failed_line : ℕ → List ℕ → List ℕ
failed_line number why =
    codes "connection " ++ (decimal number ++ (codes " failed " ++ (why ++ line_end)))

-- the line of one connection
abbrev pub outcome_line : ℕ → Outcome → List ℕ
outcome_line number outcome.Missed = failed_line number (codes "Accept")
outcome_line number outcome.Served = []
outcome_line number (outcome.Failed cause) = failed_line number (cause_text cause)

-- the lines of connections, of which the first has this number
abbrev pub turn_lines : ℕ → List Turn → List ℕ
turn_lines number [] = []
turn_lines number (turn ∷ turns) =
    outcome_line number turn.outcome ++ turn_lines (number + 1) turns

-- why a server takes no connections, if so
abbrev pub stop_of : Result (Unit {0}) Stop → Option Stop
stop_of (Ok done) = None
stop_of (Err stop) = Some stop

-- the line of a server that takes no connections
abbrev pub stop_line : Option Stop → List ℕ
stop_line None = []
stop_line (Some stop.Net) = codes "failed Net" ++ line_end
stop_line (Some stop.Output) = codes "failed Output" ++ line_end

-- a text was told, or a prefix of it where its target failed
abbrev pub IsTold : Result (Unit {0}) WriteFault → Option (List ℕ) → Option (List ℕ) → Bool → List ℕ
    → Type 0
IsTold (Ok done) before after failed text = Appends before after text
IsTold (Err fault) before after failed text = WritesPrefix before after text × (failed ≡ true)

-- what was told before goes on by a line, unless an earlier line met a fault
abbrev pub IsToldMore : Result (Unit {0}) WriteFault → Result (Unit {0}) WriteFault
    → Option (List ℕ) → Option (List ℕ) → Bool → Bool → List ℕ → Type 0
IsToldMore told result now after failed_now failed_after line =
    (before : Option (List ℕ)) (text : List ℕ) → IsTold told before now failed_now text
    → IsTold result before after failed_after (text ++ line)

-- the port of a listener that was bound at the one that was asked for: that one, or where that is
-- any, 0, one that the system gave
abbrev pub IsPortFor : ℕ → ℕ → Type 0
IsPortFor asked port = asked ≢ 0 → port ≡ asked

-- the line of the port was told, the listener had none to tell, or the target failed after a prefix
-- of it
abbrev pub IsAnnounced : ℕ → Result (Unit {0}) Stop → Option (List ℕ) → Option (List ℕ) → Bool
    → Type 0
IsAnnounced asked (Ok done) before after failed =
    (port : ℕ) × IsPortFor asked port × Appends before after (listening_line port)
IsAnnounced asked (Err stop.Net) before after failed = Keeps before after
IsAnnounced asked (Err stop.Output) before after failed =
    (port : ℕ) × IsPortFor asked port × WritesPrefix before after (listening_line port)
    × (failed ≡ true)

module _ {D : Type 0} (serve : D → Outcome → D → Type 0) (ask : D → Bool → D → Type 0) where
  -- one connection, and then the question whether what serves it still answers
  pub record IsTurn (before : D) (turn : Turn) (after : D) : Type 0 where
    pub between : D
    pub served : serve before turn.outcome between
    pub asked : ask between turn.answers after

  -- connections one after the other, each but the first after one after which it answered
  pub data Takes (start : D) : List Turn → D → Type 0 where
    none : Takes start [] start
    more : (turns : List Turn) (now : D) (turn : Turn) (after : D)
        → Takes start turns now → All (λ earlier. earlier.answers ≡ true) turns
        → IsTurn now turn after → Takes start (turns ++ turn ∷ []) after

  -- after the first connections the next ones were taken, up to so many in all, and of those that
  -- failed the lines were told
  pub record HasTaken (start now : D) (told : Result (Unit {0}) WriteFault)
      (err_before err_after : Option (List ℕ)) (failed : Bool) (first taken : ℕ) : Type 0 where
    pub turns : List Turn
    pub count : first + length turns ≡ taken
    pub desk : Takes start turns now
    pub lines : IsTold told err_before err_after failed (turn_lines (first + 1) turns)
