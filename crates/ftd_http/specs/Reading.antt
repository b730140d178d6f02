-- What reading takes from a source, and finds.
use Rattle.std.specs.Prelude.{◌≡◌, ◌++◌, ℕ, List, [], Option, Bool, true}
use Rattle.std.specs.Io.KnownBytes.{Consumes, IsAtEnd}
use Rattle.ftd_http.specs.Messages.{Message, IsRefused, IsCut}
use Rattle.ftd_http.specs.Looks.{IsMessageAt, ArePartsOf}
use Rattle.ftd_http.specs.declared.read.Next.{Next}
use Rattle.ftd_http.specs.declared.read.Next.TheVariants as next

-- the source gave some bytes
pub record Takes (before after : Option (List ℕ)) : Type 0 where
  pub bytes : List ℕ
  pub gives : Consumes before after bytes

-- the source gave some bytes, and they came to the end of the buffer
pub record Reads (before after : Option (List ℕ)) (old new : List ℕ) : Type 0 where
  pub bytes : List ℕ
  pub gives : Consumes before after bytes
  pub kept : new ≡ old ++ bytes

-- what the bytes in the buffer, of a source that has so much left, begin with; or there are none,
-- and the peer was idle for too long
abbrev pub IsNext : List ℕ → Option (List ℕ) → Bool → Next → Type 0
IsNext buf left idle (next.Whole parts) =
    ((message : Message) × IsMessageAt buf parts message) × ArePartsOf buf parts
IsNext buf left idle (next.Refused status) = IsRefused buf status
IsNext buf left idle next.Closed = (buf ≡ []) × IsAtEnd left
IsNext buf left idle next.Truncated = IsCut buf × IsAtEnd left
IsNext buf left idle next.Idle = (buf ≡ []) × (idle ≡ true)
