-- What a head says of its message: how long the body is, and whether the connection closes after
-- the answer.
use Rattle.std.specs.Prelude.{ℕ, ◌&&◌, ◌||◌, ◌==◌, nat_lt, nat_le, Bool, List, [], ◌∷◌, length}
use Rattle.std.specs.Prelude.{codes, Option, Some, None, Result, Ok, Err, if◌then◌else◌}
use Rattle.std.specs.List.{list_all}
use Rattle.std.specs.Str.{all_ascii_digits, bytes_eq}
use Rattle.ftd_http.specs.declared.lengths.TheConstants.{BODY_LIMIT}
use Rattle.ftd_days.specs.Digits.{number_of}
use Rattle.ftd_http.specs.Fields.{values_of, has_listed}
use Rattle.ftd_http.specs.Origins.{origin_fault}
use Rattle.ftd_http.specs.declared.status.Status.{Status}
use Rattle.ftd_http.specs.declared.status.Status.TheVariants.{BadRequest, LengthRequired}
use Rattle.ftd_http.specs.declared.status.Status.TheVariants.{ContentTooLarge, NotImplemented}

-- a number of 1 to 10 digits
unfoldable pub number_in : List ℕ → Option ℕ
number_in text =
    if nat_lt 0 (length text) && nat_le (length text) 10 && all_ascii_digits text
    then Some (number_of text) else None

-- a body has at most 1,048,576 bytes
abbrev pub in_limit : Option ℕ → Result ℕ Status
in_limit None = Err BadRequest
in_limit (Some count) = if nat_le count BODY_LIMIT then Ok count else Err ContentTooLarge

-- the length of a body by the values of Content-Length: without one a POST is at fault and any
-- other method has an empty body; several are the same text
abbrev pub by_lengths : List ℕ → List (List ℕ) → Result ℕ Status
by_lengths method [] = if bytes_eq method (codes "POST") then Err LengthRequired else Ok 0
by_lengths method (text ∷ others) =
    if list_all (bytes_eq text) others then in_limit (number_in text) else Err BadRequest

-- a Transfer-Encoding is a fault, before those of the length
abbrev pub unless_encoded : List (List ℕ) → Result ℕ Status → Result ℕ Status
unless_encoded [] length = length
unless_encoded (encoding ∷ others) length = Err NotImplemented

-- a fault by where the message comes from, before all others
abbrev pub unless_fault : Option Status → Result ℕ Status → Result ℕ Status
unless_fault None length = length
unless_fault (Some fault) length = Err fault

-- how long the body of a message of this method and these fields is, or the first fault
unfoldable pub body_length_of : List ℕ → List (List ℕ × List ℕ) → Result ℕ Status
body_length_of method fields =
    unless_fault (origin_fault fields) (unless_encoded
    (values_of (codes "transfer-encoding") fields)
    (by_lengths method (values_of (codes "content-length") fields)))

-- the connection closes after the answer to a message of version 1.0, or with a field Connection
-- that lists `close`
unfoldable pub asks_to_close : ℕ → List (List ℕ × List ℕ) → Bool
asks_to_close minor fields = (minor == 0) || has_listed (codes "connection") (codes "close") fields
