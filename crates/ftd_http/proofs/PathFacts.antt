-- Parts of a text.
use Rattle.std.proofs.Common.{◌≡◌, ◌<◌, ◌+◌, ◌-◌, ℕ, zero, suc, List, [], Option, None, Some}
use Rattle.std.proofs.Common.{length, drop, take, refl, sym, arith, ap, ◌∙◌, ◌≤◌, get_or}
use Rattle.std.proofs.Common.{option_map, eq-eqb, ne_eqb, ⊎_elim, length-drop, get_or-drop}
use Rattle.std.proofs.lemmas.Bool.{cases_eq, cond-false, cond-true}
use Rattle.std.proofs.lemmas.Str.{len_utf8_ascii}
use Rattle.std.proofs.lemmas.Str.Pattern.{NoCharPasses-char}
use Rattle.std.specs.Path.{rfind_below, rsplit_once}
use Rattle.std.specs.Str.Pattern.{RFindsChar}
use Rattle.std.specs.Prelude.{MatchOption}
use Rattle.std.specs.List.{before_first, after_first, position_or_len}
use Rattle.std.proofs.lemmas.List.{drop_all}
use Rattle.std.proofs.Math.Seq.{take-length}
use denote.Bor.{Bor}
use Rattle.ftd_http.specs.Paths.{part, is_slash}

pub cut_of : (text : List ℕ) (r : Option (Bor (List ℕ) × Bor (List ℕ)))
    → MatchOption r (position_or_len is_slash text ≡ length text)
    (λ x. (position_or_len is_slash text < length text) × (x.0.now ≡ before_first is_slash text)
    × (x.1.now ≡ after_first is_slash text))
    → MatchOption r (position_or_len is_slash text ≡ length text)
    (λ x. (x.0.now ≡ before_first is_slash text) × (x.1.now ≡ after_first is_slash text))
cut_of text None h = h
cut_of text (Some x) h = (h.1, h.2)

-- an empty text has empty parts
empty_parts : (n : ℕ) → part n [] ≡ []
unfolding part
empty_parts zero = refl
empty_parts (suc n) = empty_parts n

-- a text without a slash has one part
pub one_part : (text : List ℕ) (n : ℕ) → position_or_len is_slash text ≡ length text → n ≡ 0
    → text ≡ part n text
unfolding part
one_part text n none first = rw (first, none) (sym (take-length text))

pub no_part : (text : List ℕ) (n : ℕ) → position_or_len is_slash text ≡ length text → 0 < n
    → [] ≡ part n text
unfolding part
no_part text zero none some = absurd (omega arith)
no_part text (suc n) none some =
    let end : drop (position_or_len is_slash text + 1) text ≡ [] =
    drop_all (position_or_len is_slash text + 1) text (omega arith) in
    rw end (sym (empty_parts n))

pub first_part : (text before : List ℕ) (n : ℕ) → before ≡ before_first is_slash text → n ≡ 0
    → before ≡ part n text
unfolding part
first_part text before n e first = rw first e

pub later_part : (text after : List ℕ) (n : ℕ) → after ≡ after_first is_slash text → 0 < n
    → part (n - 1) after ≡ part n text
unfolding part
later_part text after zero e some = absurd (omega arith)
later_part text after (suc n) e some = let less : suc n - 1 ≡ n = omega arith in rw (less, e) refl

-- the last byte of a kind, from the end on
last_none : (c : ℕ) (text : List ℕ) (n : ℕ) → ((i : ℕ) → i < n → get_or text i 0 ≡ c → ⊥)
    → rfind_below c text n ≡ None
last_none c text zero h = refl
last_none c text (suc n) h =
    cond-false _ _ _ (ne_eqb _ c (h n (omega arith)))
    ∙ last_none c text n (λ i l. h i (omega arith))

last_some : (c : ℕ) (text : List ℕ) (k n : ℕ) → k < n → get_or text k 0 ≡ c
    → ((i : ℕ) → k < i → i < n → get_or text i 0 ≡ c → ⊥) → rfind_below c text n ≡ Some k
last_some c text k zero l at h = absurd (omega arith)
last_some c text k (suc n) l at h =
    ⊎_elim
    (λ e. cond-true _ _ _ (eq-eqb _ c (ap (λ j. get_or text j 0) (sym e) ∙ at))
    ∙ ap (λ j. Some j) (sym e))
    (λ other. cond-false _ _ _ (ne_eqb _ c (h n (omega arith) (omega arith)))
    ∙ last_some c text k n (omega arith) at (λ i a b. h i a (omega arith)))
    (cases_eq k n)

-- what `rsplit_once` gives at an ASCII character
pub last_cut_of : (c : ℕ) (text : List ℕ) (r : Option (Bor (List ℕ) × Bor (List ℕ)))
    → MatchOption r (RFindsChar c text None)
    (λ x. (i : ℕ) × (j : ℕ) × RFindsChar c text (Some (i, j)) × (x.0.now ≡ take i text) × (x.1.now ≡ drop j text) × (i ≤ j) × (length x.0.now ≡ i)
    × (length x.1.now + j ≡ length text))
    → c < 128 → option_map (λ x. (x.0.now, x.1.now)) r ≡ rsplit_once c text
unfolding rsplit_once
last_cut_of c text None h low =
    sym (ap (option_map (λ i. (take i text, drop (i + 1) text)))
    (last_none c text (length text) (λ i. NoCharPasses-char c text i h low)))
last_cut_of c text (Some x) h low =
    let i = h.0 in
    let j = h.1 in
    let next : j ≡ i + 1 = omega (arith, h.2.1.ends, len_utf8_ascii c low) in
    let later : (k : ℕ) → i < k → k < length text → get_or text k 0 ≡ c → ⊥ = λ k a l e.
    let back : j + (k - j) ≡ k = omega arith in
    NoCharPasses-char c (drop j text) (k - j) h.2.0 low (omega (arith, length-drop j text))
    (get_or-drop j text (k - j) 0 ∙ ap (λ n. get_or text n 0) back ∙ e) in
    let found = last_some c text i (length text) (omega (arith, h.7)) (h.2.1.byte low) later in
    let second = h.4 ∙ ap (λ n. drop n text) next in
    (λ t. Some (h.3 t, second t))
    ∙ sym (ap (option_map (λ k. (take k text, drop (k + 1) text))) found)
