-- Where a message comes from, as the fields say that a browser sends by itself: from a page of the
-- server, or from a foreign one. A page can't choose what they say.
use Rattle.std.specs.Prelude.{ℕ, ◌&&◌, ◌||◌, ◌==◌, nat_lt, Bool, true, List, [], ◌∷◌, length, take}
use Rattle.std.specs.Prelude.{drop, codes, Option, Some, None, if◌then◌else◌}
use Rattle.std.specs.Char.{is_ascii_digit}
use Rattle.std.specs.List.{list_all, list_any}
use Rattle.ftd_http.specs.Fields.{is_word, values_of}
use Rattle.ftd_http.specs.declared.status.Status.{Status}
use Rattle.ftd_http.specs.declared.status.Status.TheVariants.{BadRequest, Forbidden}

-- a text begins with this word, without regard to ASCII case, and what comes after it is so
abbrev pub is_word_then : List ℕ → (List ℕ → Bool) → List ℕ → Bool
is_word_then word is_so text =
    is_word word (take (length word) text) && is_so (drop (length word) text)

-- nothing, or `:` and the digits of a port
abbrev pub is_port : List ℕ → Bool
is_port [] = true
is_port (mark ∷ digits) = (mark == 58) && list_all is_ascii_digit digits

-- the names that this machine has for itself
abbrev pub local_names : List (List ℕ)
local_names = codes "127.0.0.1" ∷ codes "localhost" ∷ codes "[::1]" ∷ []

-- a host of this machine: one of these names, at any port
abbrev pub is_local_host : List ℕ → Bool
is_local_host host = list_any (λ name. is_word_then name is_port host) local_names

-- the hosts that a message names, of which there is one at most
abbrev pub hosts_in : Option (List ℕ) → List (List ℕ)
hosts_in None = []
hosts_in (Some host) = host ∷ []

-- the origin of the pages of the host to which the message was sent: `http://` and that host with
-- its port, so that a page of another port of this machine is a foreign one
abbrev pub is_own_origin : List (List ℕ) → List ℕ → Bool
is_own_origin hosts origin =
    is_word_then (codes "http://") (λ named. list_any (λ host. is_word host named) hosts) origin

-- what Sec-Fetch-Site says where a page of the same host and port asks, or the user and no page
abbrev pub is_own_site : List ℕ → Bool
is_own_site site = is_word (codes "same-origin") site || is_word (codes "none") site

-- no field says that the message was sent to a host of another machine, or by a page of another
-- host than the one to which it was sent
abbrev pub is_local : List (List ℕ × List ℕ) → Bool
is_local fields =
    list_all is_local_host (values_of (codes "host") fields)
    && list_all (is_own_origin (values_of (codes "host") fields))
    (values_of (codes "origin") fields)
    && list_all is_own_site (values_of (codes "sec-fetch-site") fields)

-- the fault of a head by where it comes from: it has two fields Host, or is not local
unfoldable pub origin_fault : List (List ℕ × List ℕ) → Option Status
origin_fault fields =
    if nat_lt 1 (length (values_of (codes "host") fields)) then Some BadRequest
    else if is_local fields then None else Some Forbidden
