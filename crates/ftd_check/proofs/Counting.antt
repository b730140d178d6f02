-- Numbers that count from 1 under each key, as far as they are looked at.
use Rattle.std.proofs.Common.{◌≡◌, ◌∙◌, ◌+◌, ◌++◌, ◌<◌, ◌==◌, ◌⊎◌, ℕ, zero, suc, inl, inr, refl}
use Rattle.std.proofs.Common.{sym, ap}
use Rattle.std.proofs.Common.{subst, Bool, true, false, cond, List, [], ◌∷◌, filter, length, take}
use Rattle.std.proofs.Common.{get_or, arith, length-append, append-nil, append_assoc, Option, Some}
use Rattle.std.specs.Prelude.{unwrap_or}
use Rattle.std.proofs.lemmas.Bool.{cases_Bool, eqb-true}
use Rattle.std.proofs.lemmas.List.{take_more}
use Rattle.std.proofs.lemmas.List.Elements.{filter-append}
use Rattle.ftd_rules.specs.Lists.{Has}
use Rattle.ftd_rules.proofs.Members.{has_last}
use Rattle.ftd_entries.specs.Standing.{with_earlier}
use Rattle.ftd_entries.proofs.Entered.{with_earlier_more}
use Rattle.ftd_check.specs.Numbers.{AreNumbered, count_at}

-- one more of the key, or of another
pub count_more : (key : ℕ) (rows : List (ℕ × ℕ)) (x : ℕ × ℕ)
    → count_at key (rows ++ x ∷ []) ≡ count_at key rows + cond (x.0 == key) 1 0
count_more key rows x =
    let test : ℕ × ℕ → Bool = λ row. row.0 == key in
    ap length (filter-append test rows (x ∷ []))
    ∙ length-append (filter test rows) (filter test (x ∷ []))
    ∙ ap (λ n. count_at key rows + n) (by (x.0 == key))
  where
    by : (b : Bool) → length (cond b (x ∷ []) []) ≡ cond b 1 0
    by true = refl
    by false = refl

-- each stands behind those before it
earlier_at : {X : Type 0} (before xs : List X) (i : ℕ) (d : X) → i < length xs
    → Has (with_earlier before xs) (before ++ take i xs, get_or xs i d)
earlier_at before [] i d some = absurd (omega arith)
earlier_at {X = X} before (x ∷ xs) zero d some =
    inl (ap (λ (b : List X). let p : List X × X = (b, x) in p) (append-nil before))
earlier_at {X = X} before (x ∷ xs) (suc i) d some =
    inr (subst (λ (b : List X). Has (with_earlier (before ++ x ∷ []) xs) (b, get_or xs i d))
    (append_assoc before (x ∷ []) (take i xs))
    (earlier_at (before ++ x ∷ []) xs i d (omega arith)))

pub number_at : (rows : List (ℕ × ℕ)) (i : ℕ) (d : ℕ × ℕ) → i < length rows → AreNumbered rows
    → (get_or rows i d).1 ≡ count_at (get_or rows i d).0 (take i rows) + 1
number_at rows i d some numbered =
    numbered (take i rows, get_or rows i d) (earlier_at [] rows i d some)

-- one number more
numbered_push : (rows : List (ℕ × ℕ)) (x : ℕ × ℕ) → AreNumbered rows
    → x.1 ≡ count_at x.0 rows + 1 → AreNumbered (rows ++ x ∷ [])
numbered_push rows x numbered is p has =
    by (has_last (with_earlier [] rows) (rows, x) p
    (subst (λ (ps : List (List (ℕ × ℕ) × (ℕ × ℕ))). Has ps p) (with_earlier_more [] rows x) has))
  where
    by : Has (with_earlier [] rows) p ⊎ (p ≡ (rows, x)) → p.1.1 ≡ count_at p.1.0 p.0 + 1
    by (inl there) = numbered p there
    by (inr same) = subst (λ (q : List (ℕ × ℕ) × (ℕ × ℕ)). q.1.1 ≡ count_at q.1.0 q.0 + 1)
        (sym same) is

module _ (rows : List (ℕ × ℕ)) (i : ℕ) (d : ℕ × ℕ) (some : i < length rows)
    (is : (get_or rows i d).1 ≡ count_at (get_or rows i d).0 (take i rows) + 1) where
  pub numbered_more : AreNumbered (take i rows) → AreNumbered (take (i + 1) rows)
  numbered_more numbered = subst AreNumbered (sym (take_more rows i d some))
      (numbered_push (take i rows) (get_or rows i d) numbered is)

  -- and what is counted is the last number of each key
  pub counted_more : (found last : Option ℕ) (key : ℕ)
      → unwrap_or found 0 ≡ count_at key (take i rows)
      → last ≡ cond ((get_or rows i d).0 == key) (Some (get_or rows i d).1) found
      → unwrap_or last 0 ≡ count_at key (take (i + 1) rows)
  counted_more found last key counted updated =
      ap (λ o. unwrap_or o 0) updated ∙ by (cases_Bool ((get_or rows i d).0 == key))
      ∙ sym (ap (count_at key) (take_more rows i d some)
      ∙ count_more key (take i rows) (get_or rows i d))
    where
      by : (((get_or rows i d).0 == key) ≡ true) ⊎ (((get_or rows i d).0 == key) ≡ false)
          → unwrap_or (cond ((get_or rows i d).0 == key) (Some (get_or rows i d).1) found) 0
          ≡ count_at key (take i rows) + cond ((get_or rows i d).0 == key) 1 0
      by (inl same) =
          let k : (get_or rows i d).0 ≡ key = eqb-true (get_or rows i d).0 key same in
          rw same (subst (λ q. (get_or rows i d).1 ≡ count_at q (take i rows) + 1) k is)
      by (inr other) = rw other (counted ∙ omega arith)
