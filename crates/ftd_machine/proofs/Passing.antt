-- Checks that pass, head by head.
use Rattle.std.proofs.Common.{◌≡◌, ◌∙◌, refl, ap, suc, ◌+◌, ◌-◌, ◌≤◌, ◌==◌, Bool, true, false}
use Rattle.std.proofs.Common.{List}
use Rattle.std.proofs.Common.{[], ◌∷◌, ◌++◌, length, Option, None, Some, arith, length-append}
use Rattle.std.specs.Prelude.{is_some, slice_get}
use Rattle.std.proofs.lemmas.Bool.{le-leb}
use Rattle.ftd_machine.specs.declared.limits.TheConstants.{MOST_NUMBER}
use Rattle.ftd_machine.specs.Limits.{is_number}
use Rattle.ftd_machine.specs.State.{numbered}
use Rattle.ftd_machine.specs.Checks.{Answer, first_of, needs, done_if, finds, is_new}
use Rattle.ftd_machine.specs.Requests.{is_next}
use Rattle.ftd_machine.specs.declared.replies.Refusal.{Refusal}
use Rattle.ftd_machine.proofs.Keeping.{same_key}

pub record Pass (P : List (Option Answer)) : Type 0 where
  pub ok : first_of P ≡ None

pub pass_end : Pass []
pass_end = record { ok = refl }

pub pass_needs : (holds : Bool) (refusal : Refusal) (Q : List (Option Answer)) → holds ≡ true
    → Pass Q → Pass (needs holds refusal ∷ Q)
pass_needs true refusal Q e pass = record { ok = pass.ok }
pass_needs false refusal Q e pass = absurd cc

pub pass_done : (holds : Bool) (Q : List (Option Answer)) → holds ≡ false → Pass Q
    → Pass (done_if holds ∷ Q)
pass_done false Q e pass = record { ok = pass.ok }
pass_done true Q e pass = absurd cc

pub pass_finds : {X : Type 0} (o : Option X) (refusal : Refusal) (Q : List (Option Answer))
    → is_some o ≡ true → Pass Q → Pass (finds o refusal ∷ Q)
pass_finds (Some x) refusal Q e pass = record { ok = pass.ok }
pass_finds None refusal Q e pass = absurd cc

pub pass_new : {X : Type 0} (o : Option X) (same : X → Bool) (refusal : Refusal)
    (Q : List (Option Answer)) → o ≡ None → Pass Q → Pass (is_new o same refusal ∷ Q)
pass_new None same refusal Q e pass = record { ok = pass.ok }
pass_new (Some x) same refusal Q e pass = absurd cc

-- ---- the next correction of several

-- nothing has the next number yet
get_end : {X : Type 0} (xs : List X) → slice_get xs (length xs) ≡ None
get_end [] = refl
get_end (x ∷ xs) = get_end xs

next_is_new : {X : Type 0} (xs : List X) → numbered (length xs + 1) xs ≡ None
next_is_new xs =
    let place : length xs + 1 - 1 ≡ length xs = omega arith in
    ap (slice_get xs) place ∙ get_end xs

-- so it may be given to the next of them
pub next_fresh : {X : Type 0} (xs known : List X) → known ≡ xs
    → numbered (length xs + 1) known ≡ None
next_fresh xs known is = ap (numbered (length xs + 1)) is ∙ next_is_new xs

pub in_turn : {X : Type 0} (xs known : List X) → known ≡ xs
    → (length xs + 1 == length known + 1) ≡ true
in_turn {X} xs known is =
    ap (λ (ks : List X). length xs + 1 == length ks + 1) is ∙ same_key (length xs + 1)

pub pass_next : {X : Type 0} (xs known : List X) (same : X → Bool) (refusal : Refusal)
    → known ≡ xs
    → Pass (is_new (numbered (length xs + 1) known) same refusal
    ∷ is_next (length xs + 1) (length known) ∷ [])
pass_next xs known same refusal is =
    pass_new _ _ _ _ (next_fresh xs known is)
    (pass_needs _ _ _ (in_turn xs known is) pass_end)

-- and it is one
pub number_fits : {X : Type 0} (all xs : List X) (x : X) (rest : List X) → all ≡ xs ++ x ∷ rest
    → length all ≤ MOST_NUMBER → is_number (length xs + 1) ≡ true
number_fits all xs x rest is few =
    let long : length all ≡ length xs + suc (length rest) =
    ap length is ∙ length-append xs (x ∷ rest) in
    let low : 1 ≤ length xs + 1 = omega arith in
    let high : length xs + 1 ≤ MOST_NUMBER = omega arith in
    rw (le-leb 1 (length xs + 1) low, le-leb (length xs + 1) MOST_NUMBER high) refl
