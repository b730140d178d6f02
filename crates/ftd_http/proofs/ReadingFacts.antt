-- How reads add up.
use Rattle.std.proofs.Common.{◌≡◌, ◌<◌, ◌⊎◌, ◌++◌, ℕ, List, [], length, inl, inr, arith, ap}
use Rattle.std.specs.Prelude.{Option}
use Rattle.std.specs.Io.KnownBytes.{Consumes}
use Rattle.std.proofs.KnownBytes.{Consumes-trans}
use Rattle.ftd_http.specs.Messages.{IsCut}
use Rattle.ftd_http.specs.Reading.{Reads, Takes}

-- a chunk that was lost
pub takes_chunk : (a b c : Option (List ℕ)) (old new chunk : List ℕ) → Reads a b old new
    → Consumes b c chunk → Takes a c
takes_chunk a b c old new chunk first gives = record {
  bytes = first.bytes ++ chunk;
  gives = Consumes-trans a b c first.bytes chunk first.gives gives;
}

pub takes_more : (a b c : Option (List ℕ)) (old new : List ℕ) → Reads a b old new → Takes b c
    → Takes a c
takes_more a b c old new first second = takes_chunk a b c old new second.bytes first second.gives

-- a rest that is not empty is cut
pub cut_of : (buf : List ℕ) → (buf ≡ []) ⊎ IsCut buf → 0 < length buf → IsCut buf
cut_of buf (inl none) some = absurd (omega (arith, ap length none))
cut_of buf (inr cut) some = cut
