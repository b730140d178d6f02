-- Whose journal a target asks for, case by case.
use Rattle.std.proofs.Common.{◌≡◌, ◌∙◌, ℕ, List, Bool, true, false, Option, None, ap, cond, inl}
use Rattle.std.proofs.Common.{inr, sym}
use Rattle.std.proofs.lemmas.Bool.{cases_Bool}
use Rattle.std.proofs.lemmas.Str.{IsUtf8-from_is_utf8, is_utf8-from_IsUtf8}
use Rattle.std.specs.Path.{rsplit_once}
use Rattle.std.specs.Prelude.{option_and_then}
use Rattle.std.specs.Str.{IsUtf8, is_utf8}
use Rattle.ftd_http.specs.Asking.{journal_name, named_by}

-- by the test for UTF-8
by_text : (target : List ℕ) (text : Bool) → is_utf8 target ≡ text → journal_name target
    ≡ cond text (option_and_then named_by (rsplit_once 47 target)) None
unfolding journal_name
by_text target text e =
    ap (λ (z : Bool). cond z (option_and_then named_by (rsplit_once 47 target)) None) e

-- a target that is no text names none
pub no_name : (target : List ℕ) → (IsUtf8 target → ⊥) → None ≡ journal_name target
no_name target none = elim (cases_Bool (is_utf8 target)) [
  | inl e ↦ absurd (none (IsUtf8-from_is_utf8 target e))
  | inr e ↦ sym (by_text target false e)
]

-- by what is before its last slash and behind it
pub name_behind : (target : List ℕ) (cut : Option (List ℕ × List ℕ)) → IsUtf8 target
    → cut ≡ rsplit_once 47 target → option_and_then named_by cut ≡ journal_name target
name_behind target cut utf8 e =
    ap (λ (c : Option (List ℕ × List ℕ)). option_and_then named_by c) e
    ∙ sym (by_text target true (is_utf8-from_IsUtf8 target utf8))
