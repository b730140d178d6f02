-- What a body is as JSON.
use Rattle.std.proofs.Common.{◌≡◌, List, ℕ, Some, None, ap, ◌∙◌, cond, inl, inr}
use Rattle.std.proofs.lemmas.Bool.{cases_Bool}
use Rattle.std.specs.Str.{IsUtf8, is_utf8}
use Rattle.std.proofs.lemmas.Str.{IsUtf8-from_is_utf8, is_utf8-from_IsUtf8}
use Rattle.serde_json.specs.Data.{Data}
use Rattle.serde_json.specs.Read.{read}
use Rattle.ftd_http.specs.Bodies.{json_of}

pub json-read : (body : List ℕ) (d : Data) → IsUtf8 body → read body ≡ Some d
    → json_of body ≡ Some d
unfolding json_of
json-read body d utf8 e = ap (λ b. cond b (read body) None) (is_utf8-from_IsUtf8 body utf8) ∙ e

pub json-none : (body : List ℕ) → (IsUtf8 body → read body ≡ None) → json_of body ≡ None
unfolding json_of
json-none body h = elim (cases_Bool (is_utf8 body)) [
  | inl e ↦ ap (λ b. cond b (read body) None) e ∙ h (IsUtf8-from_is_utf8 body e)
  | inr e ↦ ap (λ b. cond b (read body) None) e
]
