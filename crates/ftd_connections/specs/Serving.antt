-- What is served on a connection.
use Rattle.std.specs.Prelude.{◌-◌, ◌≡◌, ◌≢◌, ◌<◌, ◌+◌, ◌++◌, ℕ, ◌==◌, ◌||◌, Bool, true, false}
use Rattle.std.specs.Prelude.{List, [], ◌∷◌, length, All, Option, Some, None, Result, Ok, Err}
use Rattle.std.specs.Io.KnownBytes.{Consumes, Appends, IsAtEnd}
use Rattle.ftd_connections.specs.declared.connection.TheConstants.{MOST_MESSAGES}
use Rattle.ftd_http.specs.Messages.{Message, IsMessage, message_bytes, AreMessages, closes}
use Rattle.ftd_http.specs.Messages.{IsRefused, IsCut}
use Rattle.ftd_http.specs.declared.status.Status.{Status}
use Rattle.ftd_http.specs.declared.ask.Inquiry.{Inquiry}
use Rattle.ftd_connections.specs.Responses.{Said, bare, response_text}
use Rattle.ftd_http.specs.Asking.{asked_of, is_for_browser}
use Rattle.ftd_connections.specs.declared.connection.End.{End}
use Rattle.ftd_connections.specs.declared.connection.End.TheVariants as end
use Rattle.ftd_connections.specs.declared.connection.Cause.{Cause}
use Rattle.ftd_connections.specs.declared.connection.Cause.TheVariants as why
use Rattle.ftd_connections.specs.declared.connection.ServedConnection.{ServedConnection}
use Rattle.ftd_connections.specs.declared.connection.ServeFault.{ServeFault}

-- what a message asks
abbrev pub inquiry_of : Message → Inquiry
inquiry_of message = asked_of message.head.method message.head.target message.body

-- A message asks for the end of its connection: its head does, or it asks for what a browser shows,
-- which would keep the connection while another client waits.
unfoldable pub asks_to_end : Message → Bool
asks_to_end message = closes message || is_for_browser (inquiry_of message)

-- fewer than 100 messages, none of which asks for the end
pub record AreOpen (messages : List Message) : Type 0 where
  pub stay : All (λ message. asks_to_end message ≡ false) messages
  pub few : length messages < MOST_MESSAGES

-- How a stream ends after these messages, where `rest` is what comes after them: between two
-- messages, since the peer closed it or was idle for too long; inside one; with one that its head
-- refuses, by a status; after the last of them, which asks for it; or after the hundredth.
pub data Ends (rest : List ℕ) : List Message → Option Status → End → Type 0 where
  closed : (messages : List Message) → AreOpen messages → rest ≡ []
      → Ends rest messages None end.Closed
  idled : (messages : List Message) → AreOpen messages → rest ≡ []
      → Ends rest messages None end.Idle
  truncated : (messages : List Message) → AreOpen messages → IsCut rest
      → Ends rest messages None end.Truncated
  bad : (messages : List Message) (status : Status) → AreOpen messages → IsRefused rest status
      → Ends rest messages (Some status) end.BadMessage
  asked : (messages : List Message) (last : Message) → AreOpen messages → asks_to_end last ≡ true
      → Ends rest (messages ++ last ∷ []) None end.Asked
  limit : (messages : List Message) (last : Message) → AreOpen messages → asks_to_end last ≡ false
      → length messages ≡ MOST_MESSAGES - 1
      → Ends rest (messages ++ last ∷ []) None end.Limit

-- the connection closes after the answer to a message that comes after so many others
abbrev pub closes_after : ℕ → Message → Bool
closes_after before message = asks_to_end message || (before == MOST_MESSAGES - 1)

-- the answer to a refused message
abbrev pub refusal_text : Option Status → List ℕ
refusal_text None = []
refusal_text (Some status) = response_text (bare status) true

abbrev pub refusal_count : Option Status → ℕ
refusal_count None = 0
refusal_count (Some status) = 1

-- `goes` has the machine, what a message asks, its body, the response, and the machine after it
module _ {M : Type 0} (goes : M → Inquiry → List ℕ → Said → M → Type 0) where
  -- a message that comes after so many others, its answer, and the machine before and after it
  pub record IsAnswer (before : ℕ) (now : M) (message : Message) (text : List ℕ)
      (later : M) : Type 0 where
    pub said : Said
    pub responds : goes now (inquiry_of message) message.body said later
    pub is : text ≡ response_text said (closes_after before message)

  -- messages one after the other, the text of their answers, and the machine after them
  pub data Answers (start : M) : List Message → List ℕ → M → Type 0 where
    none : Answers start [] [] start
    more : (messages : List Message) (text : List ℕ) (now : M) (message : Message) (answer : List ℕ)
        (later : M)
        → Answers start messages text now → IsAnswer (length messages) now message answer later
        → Answers start (messages ++ message ∷ []) (text ++ answer) later

  -- The answer after those of so many messages is broken off, and a part of it is written: nothing
  -- of it before it is asked for; a part of the answer to the next message, or to one that is
  -- refused.
  pub data BreaksOff (before : ℕ) (rest : List ℕ) (now later : M) : List ℕ → Cause → Type 0 where
    unasked : (cause : Cause) → later ≡ now → BreaksOff before rest now later [] cause
    in_answer : (message : Message) (after part others : List ℕ) (cause : Cause) → cause ≢ why.Read
        → IsMessage message → rest ≡ message_bytes message ++ after
        → IsAnswer before now message (part ++ others) later
        → BreaksOff before rest now later part cause
    in_refusal : (status : Status) (part others : List ℕ) (cause : Cause) → cause ≢ why.Read
        → IsRefused rest status → later ≡ now
        → refusal_text (Some status) ≡ part ++ others → BreaksOff before rest now later part cause

  -- these messages were answered so, from the machine before to the one after
  abbrev pub Answered : M → M → List Message → List ℕ → Type 0
  Answered start later messages text = Answers start messages text later

  -- these messages were answered so, and then serving failed in the rest, of whose answer a part
  -- was written
  abbrev pub Broken : M → M → List Message → List ℕ → List ℕ → List ℕ → Cause → Type 0
  Broken start later messages text rest part cause =
      (now : M) × Answers start messages text now
      × BreaksOff (length messages) rest now later part cause

-- where the peer made the end, it has no byte left, or was idle for too long
abbrev pub HasEnded : End → Option (List ℕ) → Bool → Type 0
HasEnded end.Closed left idle = IsAtEnd left
HasEnded end.Truncated left idle = IsAtEnd left
HasEnded end.Idle left idle = idle ≡ true
HasEnded end.Asked left idle = Unit {0}
HasEnded end.Limit left idle = Unit {0}
HasEnded end.BadMessage left idle = Unit {0}

-- a read or a write is the cause only where the source or the target has failed
abbrev pub HasFailed : Cause → Bool → Bool → Type 0
HasFailed why.Read source_failed target_failed = source_failed ≡ true
HasFailed why.Write source_failed target_failed = target_failed ≡ true
HasFailed why.Memory source_failed target_failed = Unit {0}

-- A connection that was served: the bytes read are messages up to an end, and what was written are
-- their answers, which came about so.
pub record ServesMessages (answered : List Message → List ℕ → Type 0)
    (left left' : Option (List ℕ)) (idle : Bool) (taken taken' : Option (List ℕ))
    (served : ServedConnection) : Type 0 where
  pub read : List ℕ
  pub messages : List Message
  pub rest : List ℕ
  pub refusal : Option Status
  pub text : List ℕ
  pub gives : Consumes left left' read
  pub are : AreMessages read messages rest
  pub ends : Ends rest messages refusal served.end
  pub at_end : HasEnded served.end left' idle
  pub answers : answered messages text
  pub written : Appends taken taken' (text ++ refusal_text refusal)
  pub count : served.answered ≡ length messages + refusal_count refusal

-- A connection on which serving failed: the first messages of the bytes read were answered, and the
-- next one in part, which came about so.
pub record Breaks (broken : List Message → List ℕ → List ℕ → List ℕ → Cause → Type 0)
    (left left' : Option (List ℕ)) (source_failed : Bool)
    (taken taken' : Option (List ℕ)) (target_failed : Bool) (fault : ServeFault) : Type 0 where
  pub read : List ℕ
  pub messages : List Message
  pub rest : List ℕ
  pub text : List ℕ
  pub part : List ℕ
  pub gives : Consumes left left' read
  pub are : AreMessages read messages rest
  pub stay : AreOpen messages
  pub answers : broken messages text rest part fault.cause
  pub failed : HasFailed fault.cause source_failed target_failed
  pub written : Appends taken taken' (text ++ part)
  pub count : fault.answered ≡ length messages

module _ {M : Type 0} (goes : M → Inquiry → List ℕ → Said → M → Type 0) where
  -- so far: so many messages of the bytes read are answered, after none of which the connection
  -- closes, and `kept` is what stands after them
  pub record Talk (start now : M) (left left' taken taken' : Option (List ℕ)) (kept : List ℕ)
      (answered : ℕ) : Type 0 where
    pub read : List ℕ
    pub messages : List Message
    pub text : List ℕ
    pub gives : Consumes left left' read
    pub are : AreMessages read messages kept
    pub stay : AreOpen messages
    pub answers : Answers goes start messages text now
    pub written : Appends taken taken' text
    pub count : answered ≡ length messages

  -- What the next message makes of a connection that was served so far: it is answered, and the
  -- connection stays open; or the connection ends; or serving fails.
  module _ (now later : M) (left left' : Option (List ℕ)) (idle source_failed : Bool)
      (taken taken' : Option (List ℕ)) (target_failed : Bool)
      (kept kept' : List ℕ) (answered : ℕ) where
    abbrev pub Proceeds : Result (Option ServedConnection) ServeFault → Type 0
    Proceeds (Ok None) =
        (answered < MOST_MESSAGES - 1) × ((start : M) (first said : Option (List ℕ))
        → Talk start now first left said taken kept answered
        → Talk start later first left' said taken' kept' (answered + 1))
    Proceeds (Ok (Some served)) =
        (start : M) (first said : Option (List ℕ))
        → Talk start now first left said taken kept answered
        → ServesMessages (Answered goes start later) first left' idle said taken' served
    Proceeds (Err fault) =
        (start : M) (first said : Option (List ℕ))
        → Talk start now first left said taken kept answered
        → Breaks (Broken goes start later) first left' source_failed said taken' target_failed fault
