-- A line of words, with one blank between two of them, as a script is read.
use Rattle.std.proofs.Common.{◌≡◌, ℕ, zero, suc, ◌+◌, ◌-◌, ◌*◌, ◌<◌, ◌≤◌, Bool, true, false}
use Rattle.std.proofs.Common.{leb-true, cond, List, [], ◌∷◌, ◌++◌, length, take, get_or, refl}
use Rattle.std.proofs.Common.{ap, ap₂, ◌∙◌, arith, append-nil, lt-ltb, nat_lt}
use Rattle.std.proofs.Common.{length-append}
use Rattle.std.specs.Prelude.{◌==◌, ◌&&◌, codes, filter, flat_map, nat_le, not}
use Rattle.std.specs.Io.BufRead.{strip_last, take_through}
use Rattle.std.specs.List.{All, list_all, slice_split}
use Rattle.std.specs.Char.{is_ascii_graphic}
use Rattle.std.specs.Str.{IsAscii, is_utf8}
use Rattle.std.proofs.lemmas.Str.{IsUtf8-from_ascii, is_utf8-from_IsUtf8}
use Rattle.std.proofs.lemmas.List.Folds.{list_all-append}
use Rattle.std.proofs.lemmas.Bool.{and_parts}
use Rattle.std.proofs.lemmas.Bool.Decides.{nat_tests}
use Rattle.std.proofs.lemmas.List.Splits.{slice_split_at, slice_split_none}
use Rattle.ftd_days.proofs.Years.{eq_not}
use Rattle.ftd_cli.specs.Lines.{after_line, first_line, is_blank, parts_of}

-- ---- the bytes of words

-- one byte or more, each of which is printed and no blank
abbrev pub is_printed : List ℕ → Bool
is_printed [] = false
is_printed (byte ∷ bytes) = is_ascii_graphic byte && list_all is_ascii_graphic bytes

-- no more than 31 such bytes
abbrev pub is_word : List ℕ → Bool
is_word word = is_printed word && nat_le (length word) 31

-- each is such a word
abbrev pub are_words : List (List ℕ) → Bool
are_words words = list_all is_word words

-- words, each with a blank before it
abbrev pub spaced : List (List ℕ) → List ℕ
spaced words = flat_map (λ word. codes " " ++ word) words

-- such a byte lies between these
plain_bounds : (byte : ℕ) → is_ascii_graphic byte ≡ true → (32 < byte) × (byte < 127)
plain_bounds byte e =
    let parts = and_parts (nat_le 33 byte) (nat_le byte 126) e in
    let p = parts.0 in
    let q = parts.1 in
    (grind (arith, nat_tests), grind (arith, nat_tests))

-- it is no blank, and ends no line
no_blank : (byte : ℕ) → is_ascii_graphic byte ≡ true → is_blank byte ≡ false
no_blank byte e =
    let bounds = plain_bounds byte e in
    let low = bounds.0 in
    rw (
      eq_not byte 32 (λ s. absurd (omega arith)),
      eq_not byte 9 (λ s. absurd (omega arith)),
      eq_not byte 13 (λ s. absurd (omega arith)),
    ) refl

no_end : (byte : ℕ) → is_ascii_graphic byte ≡ true → (byte == 10) ≡ false
no_end byte e = let low = (plain_bounds byte e).0 in eq_not byte 10 (λ s. absurd (omega arith))

-- the bytes of a word are such
plain_word : (word : List ℕ) → is_word word ≡ true → list_all is_ascii_graphic word ≡ true
plain_word [] e = refl
plain_word (byte ∷ bytes) e =
    (and_parts (list_all is_ascii_graphic (byte ∷ bytes)) (nat_le (length (byte ∷ bytes)) 31) e).0

-- no byte of a word is a blank
no_blanks : (bytes : List ℕ) → list_all is_ascii_graphic bytes ≡ true
    → All (λ byte. is_blank byte ≡ false) bytes
no_blanks [] e k d l = absurd (omega arith)
no_blanks (byte ∷ bytes) e zero d l =
    no_blank byte (and_parts (is_ascii_graphic byte) (list_all is_ascii_graphic bytes) e).0
no_blanks (byte ∷ bytes) e (suc k) d l =
    no_blanks bytes (and_parts (is_ascii_graphic byte) (list_all is_ascii_graphic bytes) e).1 k d
    (omega arith)

-- ---- the words of a line

-- a line is cut at the blanks between its words
split_words : (first : List ℕ) (words : List (List ℕ)) → is_word first ≡ true
    → are_words words ≡ true → slice_split is_blank (first ++ spaced words) ≡ first ∷ words
split_words first [] f e =
    ap (slice_split is_blank) (append-nil first)
    ∙ slice_split_none is_blank first (no_blanks first (plain_word first f))
split_words first (word ∷ words) f e =
    let parts = and_parts (is_word word) (are_words words) e in
    slice_split_at is_blank first 32 (word ++ spaced words) (no_blanks first (plain_word first f))
    refl
    ∙ ap (λ rest. first ∷ rest) (split_words word words parts.0 parts.1)

-- no word is empty
some_byte : (word : List ℕ) → is_word word ≡ true → nat_lt 0 (length word) ≡ true
some_byte [] e = e
some_byte (byte ∷ bytes) e = lt-ltb _ _ (omega arith)

-- so all parts are kept
kept_words : (words : List (List ℕ)) → are_words words ≡ true
    → filter (λ part. nat_lt 0 (length part)) words ≡ words
kept_words [] e = refl
kept_words (word ∷ words) e =
    let parts = and_parts (is_word word) (are_words words) e in
    rw (some_byte word parts.0) (ap (λ rest. word ∷ rest) (kept_words words parts.1))

-- the words of a line are those that it was made of
pub words_back : (first : List ℕ) (words : List (List ℕ)) → are_words (first ∷ words) ≡ true
    → parts_of (first ++ spaced words) ≡ first ∷ words
words_back first words e =
    let parts = and_parts (is_word first) (are_words words) e in
    ap (filter (λ part. nat_lt 0 (length part))) (split_words first words parts.0 parts.1)
    ∙ kept_words (first ∷ words) e

-- ---- a line among others

-- the byte ends no line
abbrev pub is_inner : ℕ → Bool
is_inner byte = not (byte == 10)

-- no line ends within a word, nor within words with blanks before them
inner_word : (bytes : List ℕ) → list_all is_ascii_graphic bytes ≡ true
    → list_all is_inner bytes ≡ true
inner_word [] e = refl
inner_word (byte ∷ bytes) e =
    let parts = and_parts (is_ascii_graphic byte) (list_all is_ascii_graphic bytes) e in
    rw (no_end byte parts.0) (inner_word bytes parts.1)

inner_words : (words : List (List ℕ)) → are_words words ≡ true
    → list_all is_inner (spaced words) ≡ true
inner_words [] e = refl
inner_words (word ∷ words) e =
    let parts = and_parts (is_word word) (are_words words) e in
    list_all-append is_inner word (spaced words)
    ∙ ap₂ (λ a b. a && b) (inner_word word (plain_word word parts.0)) (inner_words words parts.1)

-- no line ends within the words of a line
pub inner_line : (first : List ℕ) (words : List (List ℕ)) → are_words (first ∷ words) ≡ true
    → list_all is_inner (first ++ spaced words) ≡ true
inner_line first words e =
    let parts = and_parts (is_word first) (are_words words) e in
    list_all-append is_inner first (spaced words)
    ∙ ap₂ (λ a b. a && b) (inner_word first (plain_word first parts.0)) (inner_words words parts.1)

-- the bytes up to the first end of a line, and those behind it
taken : (bytes rest : List ℕ) → list_all is_inner bytes ≡ true
    → take_through 10 (bytes ++ 10 ∷ rest) ≡ bytes ++ 10 ∷ []
taken [] rest e = refl
taken (byte ∷ bytes) rest e =
    let parts = and_parts (is_inner byte) (list_all is_inner bytes) e in
    go (byte == 10) parts.0 (taken bytes rest parts.1)
  where
    go : (b : Bool) → not b ≡ true → take_through 10 (bytes ++ 10 ∷ rest) ≡ bytes ++ 10 ∷ []
        → cond b (byte ∷ []) (byte ∷ take_through 10 (bytes ++ 10 ∷ rest))
        ≡ byte ∷ (bytes ++ 10 ∷ [])
    go true n h = cc n
    go false n h = ap (λ bs. byte ∷ bs) h

dropped : (bytes rest : List ℕ) → list_all is_inner bytes ≡ true
    → after_line (bytes ++ 10 ∷ rest) ≡ rest
dropped [] rest e = refl
dropped (byte ∷ bytes) rest e =
    let parts = and_parts (is_inner byte) (list_all is_inner bytes) e in
    go (byte == 10) parts.0 (dropped bytes rest parts.1)
  where
    go : (b : Bool) → not b ≡ true → after_line (bytes ++ 10 ∷ rest) ≡ rest
        → cond b (bytes ++ 10 ∷ rest) (after_line (bytes ++ 10 ∷ rest)) ≡ rest
    go true n h = cc n
    go false n h = h

-- the end of a line is its last byte, and before that stand the others
last_at : (bytes : List ℕ) → get_or (bytes ++ 10 ∷ []) (length bytes) 0 ≡ 10
last_at [] = refl
last_at (byte ∷ bytes) = last_at bytes

front_of : (bytes : List ℕ) → take (length bytes) (bytes ++ 10 ∷ []) ≡ bytes
front_of [] = refl
front_of (byte ∷ bytes) = ap (λ bs. byte ∷ bs) (front_of bytes)

-- a line without its end
stripped : (bytes : List ℕ) → strip_last 10 (bytes ++ 10 ∷ []) ≡ bytes
stripped bytes =
    let long : length (bytes ++ 10 ∷ []) ≡ suc (length bytes) =
    length-append bytes (10 ∷ []) ∙ omega arith in
    let less : length (bytes ++ 10 ∷ []) - 1 ≡ length bytes = omega arith in
    let some : nat_lt 0 (length (bytes ++ 10 ∷ [])) ≡ true = lt-ltb _ _ (omega arith) in
    rw (some, less, last_at bytes) (front_of bytes)

-- the first line of a script that begins with a line, and what comes after it
pub first_back : (bytes rest : List ℕ) → list_all is_inner bytes ≡ true
    → first_line (bytes ++ 10 ∷ rest) ≡ bytes
first_back bytes rest e = ap (strip_last 10) (taken bytes rest e) ∙ stripped bytes

pub after_back : (bytes rest : List ℕ) → list_all is_inner bytes ≡ true
    → after_line (bytes ++ 10 ∷ rest) ≡ rest
after_back bytes rest e = dropped bytes rest e

-- ---- how long a line is

-- each word is short, so a line of a few is not long
pub short_line : (first : List ℕ) (words : List (List ℕ)) → are_words (first ∷ words) ≡ true
    → length (first ++ spaced words) ≤ 31 + 32 * length words
short_line first [] e =
    let parts = and_parts (is_word first) true e in
    let long = leb-true (length first) 31
    (and_parts (is_printed first) (nat_le (length first) 31) parts.0).1 in
    omega (arith, length-append first [])
short_line first (word ∷ words) e =
    let parts = and_parts (is_word first) (are_words (word ∷ words)) e in
    let long = leb-true (length first) 31
    (and_parts (is_printed first) (nat_le (length first) 31) parts.0).1 in
    let rest = short_line word words parts.1 in
    omega (arith, length-append first (32 ∷ (word ++ spaced words)))

-- ---- words are texts

-- the bytes of a word are ASCII
ascii : (bytes : List ℕ) → list_all is_ascii_graphic bytes ≡ true → IsAscii bytes
ascii [] e i = omega arith
ascii (byte ∷ bytes) e zero =
    let high = (plain_bounds byte (and_parts (is_ascii_graphic byte)
    (list_all is_ascii_graphic bytes) e).0).1 in
    omega arith
ascii (byte ∷ bytes) e (suc i) =
    ascii bytes (and_parts (is_ascii_graphic byte) (list_all is_ascii_graphic bytes) e).1 i

-- each word is a text
pub words_are_texts : (words : List (List ℕ)) → are_words words ≡ true
    → list_all is_utf8 words ≡ true
words_are_texts [] e = refl
words_are_texts (word ∷ words) e =
    let parts = and_parts (is_word word) (are_words words) e in
    rw (is_utf8-from_IsUtf8 word (IsUtf8-from_ascii word (ascii word (plain_word word parts.0))))
    (words_are_texts words parts.1)
