-- The pieces of a line of what is due over all accounts, joined.
use Rattle.std.proofs.Common.{◌≡◌, ℕ, List, [], ◌∷◌, ◌++◌, refl, ◌∙◌, append_assoc}
use Rattle.std.specs.List.{join_with_byte, concat}
use Rattle.ftd_answers.proofs.LineFacts.{column, three}

-- a column of two pieces
pub two : (a s others end line : List ℕ) → others ++ end ≡ line
    → ((a ++ s) ++ (32 ∷ others)) ++ end ≡ a
    ++ (s ++ ((32 ∷ []) ++ line))
two a s others end line e = column (a ++ s) others end line e ∙ append_assoc a s (32 ∷ line)

-- when it is due and who owes it
pub owner_parts : (u a s f : List ℕ)
    → join_with_byte 32 (u ∷ (a ++ s) ∷ f ∷ []) ++ (32 ∷ [])
    ≡ concat (u ∷ (32 ∷ []) ∷ a ∷ s ∷ (32 ∷ []) ∷ f ∷ (32 ∷ []) ∷ [])
owner_parts u a s f = column u _ _ _ (two a s _ _ _ refl)

-- what is to be deposited and how it stands
pub deposit_parts : (a b r s d c t e f l m n p v : List ℕ) →
    join_with_byte 32 (a ∷ b ∷ r ∷ (s ++ d ++ c) ∷ (t ++ e ++ f) ∷ (l ++ m ++ n) ∷ p ∷ v ∷ [])
    ++ (10 ∷ [])
    ≡ concat (a ∷ (32 ∷ []) ∷ b ∷ (32 ∷ []) ∷ r ∷ (32 ∷ []) ∷ s ∷ d ∷ c ∷ (32 ∷ []) ∷ t ∷ e ∷ f
    ∷ (32 ∷ [])
    ∷ l ∷ m ∷ n ∷ (32 ∷ []) ∷ p ∷ (32 ∷ []) ∷ v ∷ (10 ∷ []) ∷ [])
deposit_parts a b r s d c t e f l m n p v =
    column a _ _ _
    (column b _ _ _
    (column r _ _ _
    (three s d c _ _ _ (three t e f _ _ _ (three l m n _ _ _ (column p _ _ _ refl))))))
