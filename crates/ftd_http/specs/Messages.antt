-- The messages of a stream of bytes.
use Rattle.std.specs.Prelude.{◌≡◌, ◌≤◌, ◌<◌, ◌⊎◌, ◌++◌, ℕ, Bool, List, All, length, map, Result}
use Rattle.std.specs.Prelude.{Ok, Err}
use Rattle.std.specs.List.{flat_map}
use Rattle.httparse.specs.Grammar.{RequestHead, IsRequestHead, ReadsRequest, HasNoRequest}
use Rattle.httparse.specs.Grammar.{NeverHasRequest, MayBecomeRequest, EndsInTarget, print_request}
use Rattle.httparse.specs.Spans.{RequestExceeds, RequestOverflows, name_and_value}
use Rattle.ftd_http.specs.declared.look.TheConstants.{MOST_FIELDS}
use Rattle.ftd_http.specs.declared.look.TheConstants.{HEAD_LIMIT}
use Rattle.ftd_http.specs.Heads.{body_length_of, asks_to_close}
use Rattle.ftd_http.specs.declared.status.Status.{Status}
use Rattle.ftd_http.specs.declared.status.Status.TheVariants.{BadRequest}

-- how long the body after a head is, or the first fault of the head
abbrev pub body_length : RequestHead → Result ℕ Status
body_length head = body_length_of head.method (map name_and_value head.fields)

-- a head of the grammar, of at most 16,384 bytes and 64 fields
pub record IsHead (head : RequestHead) : Type 0 where
  pub valid : IsRequestHead head
  pub short : length (print_request head) ≤ HEAD_LIMIT
  pub few : length head.fields ≤ MOST_FIELDS

-- a message: a head and its body
pub record Message : Type 0 where
  pub head : RequestHead
  pub body : List ℕ

-- the head is one, and says how long the body is
pub record IsMessage (message : Message) : Type 0 where
  pub head : IsHead message.head
  pub body : body_length message.head ≡ Ok (length message.body)

-- the bytes of a message
abbrev pub message_bytes : Message → List ℕ
message_bytes message = print_request message.head ++ message.body

-- these bytes are these messages, one after the other, and then the rest
pub record AreMessages (bytes : List ℕ) (messages : List Message) (rest : List ℕ) : Type 0 where
  pub are : All IsMessage messages
  pub parts : bytes ≡ flat_map message_bytes messages ++ rest

-- the connection closes after the answer to the message
abbrev pub closes : Message → Bool
closes message = asks_to_close message.head.minor (map name_and_value message.head.fields)

-- A stream goes on with a message that its head refuses, by this status: the head is too long, or
-- more than 64 fields stand there, or no head stands in 16,384 bytes, or none can come, or the head
-- is at fault with its body.
pub data IsRefused (rest : List ℕ) : Status → Type 0 where
  long : (head : RequestHead) (after : List ℕ) → ReadsRequest rest head after
      → HEAD_LIMIT < length (print_request head) → IsRefused rest BadRequest
  many : RequestOverflows MOST_FIELDS rest → RequestExceeds MOST_FIELDS rest
      → IsRefused rest BadRequest
  full : HasNoRequest rest → HEAD_LIMIT ≤ length rest → IsRefused rest BadRequest
  never : NeverHasRequest rest → IsRefused rest BadRequest
  fault : (head : RequestHead) (after : List ℕ) (status : Status) → IsHead head
      → rest ≡ print_request head ++ after
      → body_length head ≡ Err status → IsRefused rest status

-- a stream ends inside a message: inside its head, or inside its body
pub data IsCut (rest : List ℕ) : Type 0 where
  in_head : 0 < length rest → length rest < HEAD_LIMIT → HasNoRequest rest → MayBecomeRequest rest
      → IsCut rest
  in_body : (head : RequestHead) (part : List ℕ) (count : ℕ) → IsHead head
      → rest ≡ print_request head ++ part
      → body_length head ≡ Ok count → length part < count → IsCut rest

-- the stream ends inside a request target, or more than 64 fields stand in a head: a message there
-- may be cut and refused
abbrev pub MayBeCutOrRefused : List ℕ → Type 0
MayBeCutOrRefused rest = EndsInTarget rest ⊎ RequestExceeds MOST_FIELDS rest
