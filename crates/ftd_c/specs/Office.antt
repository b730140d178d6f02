-- What the call for C that answers messages of HTTP by a desk in memory is asked and answers.
use Rattle.std.specs.Prelude.{◌≡◌, ℕ, ◌<◌, ◌≤◌, ◌++◌, List, [], length, drop, Some, false}
use Rattle.ftd_machine.specs.State.{State, nothing}
use Rattle.ftd_machine.specs.Runs.{Goes}
use Rattle.ftd_http.specs.Messages.{Message}
use Rattle.ftd_server.specs.Replying.{ByRequests}
use Rattle.ftd_connections.specs.Serving.{Answered, ServesMessages}
use Rattle.ftd_connections.specs.declared.connection.ServedConnection.{ServedConnection}

-- what is answered where memory was refused: more than any answers have
abbrev pub no_answers : ℕ
no_answers = 18_446_744_073_709_551_615

-- the deposit machine, from nothing accepted on, answers these messages, of which it takes requests
-- and neither commands nor journals, and the text of its answers is this one
abbrev pub IsAnswered : List Message → List ℕ → Type 0
IsAnswered messages text =
    (end : State) × Answered (ByRequests Goes) nothing end messages text

-- The text of the answers to these bytes: they are served as one connection, whose messages the
-- machine answers so, and whose peer is never idle. What is unread comes after its end.
pub record AreAnswers (bytes text : List ℕ) : Type 0 where
  pub unread : List ℕ
  pub served : ServedConnection
  pub serves : ServesMessages IsAnswered (Some bytes) (Some unread) false (Some []) (Some text)
      served

-- the answers, as they are told: so many bytes
pub record HasAnswered (bytes room after : List ℕ) (count : ℕ) : Type 0 where
  pub text : List ℕ
  pub are : AreAnswers bytes text
  pub is_count : count ≡ length text
  -- they stand at the front of the room that was given for them, if they have room there
  pub stands : count ≤ length room → after ≡ text ++ drop count room
  -- and else it is as it was
  pub stays : length room < count → after ≡ room
