-- The values of a name, from one field on.
use Rattle.std.proofs.Common.{◌≡◌, ℕ, List, ◌∷◌, Bool, true, false, cond, map, filter, ap}
use Rattle.std.proofs.Common.{length, All}
use Rattle.std.specs.List.{list_all}
use Rattle.httparse.specs.Spans.{header_bytes, IsHeaderWithin}
use Rattle.httparse.specs.declared.spans.HeaderSpan.{HeaderSpan}
use Rattle.ftd_http.specs.Fields.{is_word, is_named, values_of}

-- all values of a name pass a test if those of the fields that are left do
pub record PassesAs (test : List ℕ → Bool) (name buf : List ℕ) (all left : List HeaderSpan)
    : Type 0 where
  pub within : All (IsHeaderWithin (length buf)) left
  pub same : list_all test (values_of name (map (header_bytes buf) all))
      ≡ list_all test (values_of name (map (header_bytes buf) left))

-- the values where a field has the name, or has not
kept : (field : List ℕ × List ℕ) (others : List (List ℕ × List ℕ)) → Bool → List (List ℕ)
kept field others b = map (λ (f : List ℕ × List ℕ). f.1) (cond b (field ∷ others) others)

pub named : (buf name : List ℕ) (h : HeaderSpan) (hs : List HeaderSpan)
    → is_word name (header_bytes buf h).0 ≡ true
    → values_of name (map (header_bytes buf) (h ∷ hs)) ≡ (header_bytes buf h).1 ∷ values_of name
    (map (header_bytes buf) hs)
unfolding kept
named buf name h hs e =
    ap (kept (header_bytes buf h) (filter (is_named name) (map (header_bytes buf) hs))) e

pub other : (buf name : List ℕ) (h : HeaderSpan) (hs : List HeaderSpan)
    → is_word name (header_bytes buf h).0 ≡ false
    → values_of name (map (header_bytes buf) (h ∷ hs)) ≡ values_of name (map (header_bytes buf) hs)
unfolding kept
other buf name h hs e =
    ap (kept (header_bytes buf h) (filter (is_named name) (map (header_bytes buf) hs))) e
