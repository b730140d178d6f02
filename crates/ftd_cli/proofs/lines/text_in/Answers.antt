use Rattle.std.proofs.Common.{◌≡◌, ◌∙◌, refl, ap, inl, inr, Ok, Err, Bor, List, ℕ, Result}
use Rattle.std.specs.Prelude.{IsUtf8, MatchResult, option_map}
use Rattle.std.specs.Result.{result_ok}
use Rattle.std.specs.Str.{is_utf8}
use Rattle.std.proofs.lemmas.Bool.{cases_Bool}
use Rattle.std.proofs.lemmas.Str.{IsUtf8-from_is_utf8, is_utf8-from_IsUtf8}
use Rattle.ftd_cli.specs.Lines.{text_in}
use Rattle.ftd_cli.proofs.lines.text_in.Goals as goal

text_is : {E : Type 0} (Q : E → Type 0) (bytes : List ℕ) (read : Result (Bor (List ℕ)) E)
    → MatchResult read (λ text. (text.now ≡ bytes) × IsUtf8 bytes) (λ e. ¬ (IsUtf8 bytes) × Q e)
    → option_map (λ (text : Bor (List ℕ)). text.now) (result_ok read) ≡ text_in bytes
text_is Q bytes (Ok text) h = rw (is_utf8-from_IsUtf8 bytes h.1, h.0) refl
text_is Q bytes (Err e) h = elim (cases_Bool (is_utf8 bytes)) [
  | inl is ↦ absurd (h.0 (IsUtf8-from_is_utf8 bytes is))
  | inr is ↦ rw is refl
]

pub returns : goal.returns
returns c = ap (option_map (λ (text : Bor (List ℕ)). text.now)) c.ok.ensures.value
    ∙ text_is _ c.args.part.now c.from_utf8.result c.from_utf8.ensures.cases
