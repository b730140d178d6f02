-- The words of a text, with a blank or the end of a line behind each.
use Rattle.std.proofs.Common.{◌≡◌, ℕ, zero, suc, Bool, true, false, List, [], ◌∷◌, ◌++◌, length}
use Rattle.std.proofs.Common.{refl}
use Rattle.std.proofs.Common.{cond, sym, ap, ◌∙◌, arith, lt-ltb, nat_lt}
use Rattle.std.specs.Prelude.{◌==◌, codes, filter, not}
use Rattle.std.specs.List.{All, list_all}
use Rattle.std.proofs.lemmas.Bool.{and_parts}
use Rattle.std.proofs.lemmas.List.Splits.{slice_split_at}
use Rattle.ftd_days.proofs.Years.{eq_not}
use Rattle.ftd_replies.specs.Commands.{file_text, is_bare, is_plain}
use Rattle.ftd_hinted.specs.Hinted.{IsFile, is_space, words_in}

-- one byte or more, each of which is plain
abbrev pub is_shown : List ℕ → Bool
is_shown [] = false
is_shown (byte ∷ bytes) = list_all is_plain (byte ∷ bytes)

pub shown_plain : (word : List ℕ) → is_shown word ≡ true → list_all is_plain word ≡ true
shown_plain [] e = refl
shown_plain (byte ∷ bytes) e = e

-- a plain byte is none that is not
another : (byte other : ℕ) → is_plain byte ≡ true → is_plain other ≡ false
    → (byte == other) ≡ false
another byte other e o = eq_not byte other (λ same. go (sym e ∙ (ap is_plain same ∙ o)))
  where
    go : true ≡ false → ⊥
    go e = cc e

-- so it stands in a word
no_space : (byte : ℕ) → is_plain byte ≡ true → is_space byte ≡ false
no_space byte e =
    rw (
      another byte 32 e refl,
      another byte 9 e refl,
      another byte 13 e refl,
      another byte 10 e refl,
    ) refl

no_spaces : (bytes : List ℕ) → list_all is_plain bytes ≡ true
    → All (λ byte. is_space byte ≡ false) bytes
no_spaces [] e k d l = absurd (omega arith)
no_spaces (byte ∷ bytes) e zero d l =
    no_space byte (and_parts (is_plain byte) (list_all is_plain bytes) e).0
no_spaces (byte ∷ bytes) e (suc k) d l =
    no_spaces bytes (and_parts (is_plain byte) (list_all is_plain bytes) e).1 k d (omega arith)

-- no word is empty
some_byte : (word : List ℕ) → is_shown word ≡ true → nat_lt 0 (length word) ≡ true
some_byte [] e = e
some_byte (byte ∷ bytes) e = lt-ltb _ _ (omega arith)

-- a word, and what stands behind it
pub next_word : (word : List ℕ) (space : ℕ) (rest : List ℕ) → is_shown word ≡ true
    → is_space space ≡ true → words_in (word ++ space ∷ rest) ≡ word ∷ words_in rest
next_word word space rest e s =
    ap (filter (λ part. nat_lt 0 (length part)))
    (slice_split_at is_space word space rest (no_spaces word (shown_plain word e)) s)
    ∙ ap (λ b. cond b (word ∷ words_in rest) (words_in rest)) (some_byte word e)

-- what is shown for a file
pub file_shown : (db : List ℕ) → IsFile db → is_shown (file_text db) ≡ true
file_shown [] e = cc e
file_shown (byte ∷ bytes) e = go (is_bare (byte ∷ bytes)) refl
  where
    go : (b : Bool) → is_bare (byte ∷ bytes) ≡ b
        → is_shown (cond b (byte ∷ bytes) (codes "FILE")) ≡ true
    go true e = (and_parts (not (byte == 45)) (list_all is_plain (byte ∷ bytes)) e).1
    go false e = refl
