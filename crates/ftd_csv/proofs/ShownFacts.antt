-- A buffer that was filled with what is shown of a text.
use Rattle.std.proofs.Common.{◌≡◌, ◌<◌, ◌≤◌, ℕ, List, length, take, map, get_or, min, arith, ap}
use Rattle.std.proofs.Common.{sym, ◌∙◌}
use Rattle.std.proofs.lemmas.Grind.{get_or_default_zero}
use Rattle.std.proofs.lemmas.List.{same_lists, get_or-map, get_or-take, length-map, length-take}
use Rattle.std.proofs.lemmas.List.{length-take-le}
use Rattle.ftd_csv.specs.Shown.{shown, shown_byte}

-- the first bytes of a text, each shown
same_byte : (buffer text : List ℕ) (n k d : ℕ) → k < n → n ≤ 60 → n ≤ length buffer
    → n ≤ length text → get_or buffer k 0 ≡ shown_byte (get_or text k 0)
    → get_or (take n buffer) k d ≡ get_or (map shown_byte (take 60 text)) k d
same_byte buffer text n k d h sixty room there is =
    let long : k < length (take 60 text) = omega (arith, length-take 60 text) in
    get_or-take n buffer k d h ∙ get_or_default_zero buffer k d (omega arith) ∙ is
    ∙ ap shown_byte (sym (get_or-take 60 text k 0 (omega arith)))
    ∙ sym (get_or-map shown_byte (take 60 text) k 0 d long)

pub filled : (buffer text : List ℕ) (n : ℕ) → length buffer ≡ 60 → n ≡ min (length text) 60
    → ((k : ℕ) → k < n → get_or buffer k 0 ≡ shown_byte (get_or text k 0))
    → take n buffer ≡ shown text
unfolding shown
filled buffer text n room count each =
    let short : length (take n buffer) ≡ n = length-take-le n buffer (omega arith) in
    same_lists (take n buffer) (map shown_byte (take 60 text))
    (omega (arith, length-map (take 60 text) shown_byte, length-take 60 text))
    (λ k d h. same_byte buffer text n k d (omega arith) (omega arith) (omega arith) (omega arith)
    (each k (omega arith)))
