-- What a call that writes a text leaves of it.
use Rattle.std.specs.Prelude.{◌≡◌, ◌++◌, ℕ, List, Option, Bool, true, Result, OnOk, OnErr}
use Rattle.std.specs.Io.KnownBytes.{Appends}

-- a prefix of the text was written
pub record WritesPrefix (before after : Option (List ℕ)) (text : List ℕ) : Type 0 where
  pub written : List ℕ
  pub unwritten : List ℕ
  pub parts : text ≡ written ++ unwritten
  pub appends : Appends before after written

-- The text was written whole; or the call answers an error, a prefix of the text was written, and
-- the target has failed.
pub record Writes {T E : Type 0} (result : Result T E) (before after : Option (List ℕ))
    (failed : Bool) (text : List ℕ) : Type 0 where
  pub ok : OnOk result (Appends before after text)
  pub err : OnErr result (WritesPrefix before after text)
  pub fault : OnErr result (failed ≡ true)
