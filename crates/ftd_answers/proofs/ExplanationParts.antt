-- The parts of why an obligation is so as JSON, joined.
use Rattle.std.proofs.Common.{◌≡◌, ℕ, List, [], ◌∷◌, ◌++◌, codes, Option, Some, None, refl}
use Rattle.std.proofs.Common.{append_assoc}
use Rattle.std.specs.List.{concat, join_with_byte}
use Rattle.ftd_days.specs.Text.{day_text}
use Rattle.ftd_machine.specs.declared.explained.Explanation.{Explanation}
use Rattle.ftd_answers.specs.Fields.{comma, member, members_of, object_of, quoted}
use Rattle.ftd_answers.specs.ExplanationForms.{asked_fields, asked_head, explained_members}
use Rattle.ftd_answers.specs.ExplanationForms.{explanation_json, explanation_members}

-- an object of an account, a day and other members
joined : (a d m : List ℕ) (ms : List (List ℕ)) → object_of (member (codes "account") (quoted a)
    ∷ member (codes "day") (quoted d) ∷ m ∷ ms) ++ (10 ∷ [])
    ≡ concat (codes "{\"account\":\"" ∷ a ∷ codes "\",\"day\":\"" ∷ d ∷ codes "\"," ∷ [])
    ++ (join_with_byte comma (m ∷ ms) ++ (125 ∷ 10 ∷ []))
joined a d m ms = simp append_assoc

parts : (account : List ℕ) (day : ℕ) (members : List (List ℕ)) (m : List ℕ) (ms : List (List ℕ))
    → members ≡ m ∷ ms
    → object_of (members_of (asked_fields account day) ++ members) ++ (10 ∷ [])
    ≡ asked_head account day ++ (join_with_byte comma members ++ (125 ∷ 10 ∷ []))
parts account day members m ms e = rw e (joined account (day_text day) m ms)

pub json_parts : (account : List ℕ) (day : ℕ) (explained : Option Explanation)
    → explanation_json account day explained
    ≡ asked_head account day
    ++ (join_with_byte comma (explained_members account explained) ++ (125 ∷ 10 ∷ []))
unfolding explanation_json
json_parts account day None =
    parts account day _ (member (codes "obligation") (codes "null")) [] refl
json_parts account day (Some e) = parts account day (explanation_members account e) _ _ refl
