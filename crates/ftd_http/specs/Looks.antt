-- What a look at the bytes read so far finds.
use Rattle.std.specs.Prelude.{◌≡◌, ◌≤◌, ◌<◌, ◌⊎◌, ◌++◌, ℕ, List, [], length, drop, slice_range}
use Rattle.httparse.specs.Spans.{IsWithin, span_bytes}
use Rattle.ftd_http.specs.Messages.{Message, IsMessage, message_bytes, closes, IsRefused, IsCut}
use Rattle.ftd_http.specs.declared.look.Parts.{Parts}
use Rattle.ftd_http.specs.declared.look.Look.{Look}
use Rattle.ftd_http.specs.declared.look.Look.TheVariants as look

-- the parts of a message at the front of the bytes
pub record IsMessageAt (buf : List ℕ) (parts : Parts) (message : Message) : Type 0 where
  pub is : IsMessage message
  pub reads : buf ≡ message_bytes message ++ drop parts.end buf
  pub method : span_bytes buf parts.method ≡ message.head.method
  pub target : span_bytes buf parts.target ≡ message.head.target
  pub body : slice_range buf parts.body parts.end ≡ message.body
  pub closes : parts.closes ≡ closes message

-- the parts lie in the bytes
pub record ArePartsOf (buf : List ℕ) (parts : Parts) : Type 0 where
  pub method : IsWithin (length buf) parts.method
  pub target : IsWithin (length buf) parts.target
  pub body : parts.body ≤ parts.end
  pub end : parts.end ≤ length buf

-- a message, or one that is refused; or more bytes are wanted, at most so many in all
abbrev pub IsLook : List ℕ → Look → Type 0
IsLook buf (look.Whole parts) =
    ((message : Message) × IsMessageAt buf parts message) × ArePartsOf buf parts
IsLook buf (look.Refused status) = IsRefused buf status
IsLook buf (look.More want) = ((buf ≡ []) ⊎ IsCut buf) × (length buf < want) × (want ≤ 1_064_960)
